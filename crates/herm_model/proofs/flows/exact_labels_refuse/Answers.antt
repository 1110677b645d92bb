use Rattle.herm_model.proofs.ExactLabels.{exact-said}
use Rattle.herm_model.proofs.flows.exact_labels_refuse.Goals as goal

pub returns : goal.returns
returns c = exact-said
