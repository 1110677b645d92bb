use Rattle.std.proofs.Common.{◌≡◌, length}
use Rattle.herm_check.proofs.labels.next_small.Given as goal

abbrev pub invariant-loop-i : goal.invariant-loop-i
invariant-loop-i l = l.i-end ≡ length l.labels
