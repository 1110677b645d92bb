use Rattle.herm_forms.proofs.KeptForms.{edges-keep}
use Rattle.herm_forms.proofs.ledger.edges_keep_the_ledger.Goals as goal

pub returns : goal.returns
returns c = record { edges = edges-keep }
