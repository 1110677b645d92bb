use Rattle.std.proofs.Common.{ℕ, ◌<◌}
use Rattle.herm_check.specs.Alike.{StartsAlike}
use Rattle.herm_check.proofs.alike.start_alike.Given as goal

abbrev pub invariant-loop-n : goal.invariant-loop-n
invariant-loop-n l = (k : ℕ) → k < l.n → StartsAlike l.facts l.firsts k
