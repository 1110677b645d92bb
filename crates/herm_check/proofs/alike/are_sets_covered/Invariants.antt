use Rattle.std.proofs.Common.{ℕ, ◌<◌, length}
use Rattle.herm_check.specs.Lists.{at_has}
use Rattle.herm_check.specs.Alike.{AreCovered}
use Rattle.herm_check.proofs.alike.are_sets_covered.Given as goal

abbrev pub invariant-loop-set : goal.invariant-loop-set
invariant-loop-set l = (i : ℕ) → i < l.set-index → AreCovered (at_has l.sets i) l.firsts l.groups (length l.firsts)
