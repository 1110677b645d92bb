use Rattle.std.proofs.Common.{◌≡◌, ℕ, ◌<◌, length, Some, slice_get}
use Rattle.herm_check.specs.declared.lists.ListsOf.{ListsOf}
use Rattle.herm_check.specs.Alike.{AreListsCovered}
use Rattle.herm_check.proofs.alike.are_lists_covered.Given as goal

abbrev pub invariant-loop-point : goal.invariant-loop-point
invariant-loop-point l = (i : ℕ) (p : ListsOf) → i < l.point-index → slice_get l.lists i ≡ Some p → AreListsCovered p l.firsts l.groups (length l.firsts)
