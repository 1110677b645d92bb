use Rattle.herm_model.proofs.HeldDecided.{holds-or_lacks, exact-labels}
use Rattle.herm_model.proofs.refusals.exact_labels_exist.Goals as goal

pub returns-clause-decided : goal.returns-clause-decided
returns-clause-decided c = λ flow f i. holds-or_lacks flow f i

pub returns-clause-labels : goal.returns-clause-labels
returns-clause-labels c = λ flow. exact-labels flow
