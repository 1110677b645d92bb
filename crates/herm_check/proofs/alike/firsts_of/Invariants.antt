use Rattle.std.proofs.Common.{◌≡◌, length}
use Rattle.herm_check.proofs.alike.firsts_of.Given as goal

abbrev pub invariant-loop-n : goal.invariant-loop-n
invariant-loop-n l = length l.firsts.items ≡ l.n
