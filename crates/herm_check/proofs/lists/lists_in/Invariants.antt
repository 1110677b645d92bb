use Rattle.herm_flow.specs.declared.onward.OnwardPoint.{OnwardPoint}
use Rattle.herm_check.specs.declared.lists.ListsOf.{ListsOf}
use Rattle.herm_check.specs.Lists.{AreListsOf}
use Rattle.herm_check.proofs.Making.{AreEach}
use Rattle.herm_check.proofs.lists.lists_in.Given as goal

abbrev pub invariant-loop-point : goal.invariant-loop-point
invariant-loop-point l = AreEach (λ (p : OnwardPoint) (k : ListsOf). AreListsOf l.numbers p k) l.point-items l.lists.items l.point-index
