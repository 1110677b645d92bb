use Rattle.std.proofs.Common.{◌≡◌, ◌<◌, ℕ, true}
use Rattle.herm_check.specs.Labelled.{is_reached}
use Rattle.herm_check.proofs.ready.are_reached.Given as goal

abbrev pub invariant-loop-i : goal.invariant-loop-i
invariant-loop-i l = (j : ℕ) → j < l.i → is_reached l.labels j ≡ true
