use Rattle.herm_model.proofs.ExcessOrder.{facts-excess, values-excess}
use Rattle.herm_model.proofs.typed_programs.an_excess_is_one_list.Goals as goal

pub returns : goal.returns
returns c = record { facts = facts-excess; values = values-excess }
