use Rattle.herm_model.proofs.Copyable.{copyable-is, is-copyable}
use Rattle.herm_model.proofs.types.copyable_is_the_smallest_set.Goals as goal

pub returns : goal.returns
returns c = record { test = λ n table t w. (copyable-is table n t, is-copyable table n t w) }
