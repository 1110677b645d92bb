use Rattle.herm_model.proofs.Walks.{flows-Holds}
use Rattle.herm_model.proofs.flows.flowing_labels_hold.Goals as goal

pub returns : goal.returns
returns c = flows-Holds
