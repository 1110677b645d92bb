use Rattle.std.proofs.Common.{◌≡◌, length}
use Rattle.herm_check.proofs.alike.keys_in.Given as goal

abbrev pub invariant-loop-point : goal.invariant-loop-point
invariant-loop-point l = length l.keys.items ≡ l.count
