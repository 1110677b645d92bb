use Rattle.herm_instructions.proofs.FactsBehind.{facts-held_behind, values-fit}
use Rattle.herm_instructions.proofs.good_code.labels_are_of_values.Goals as goal

pub returns : goal.returns
returns c = record { behind = facts-held_behind; arrived = values-fit }
