use Rattle.std.proofs.Common.{◌≡◌, ℕ, ◌<◌, ◌≤◌, true, false}
use Rattle.herm_check.specs.Labelled.{is_reached, is_pending}
use Rattle.herm_check.proofs.labels.next_from.Given as goal

abbrev pub invariant-loop-i : goal.invariant-loop-i
invariant-loop-i l = (j : ℕ) → l.from ≤ j → j < l.i → is_reached l.labels j ≡ true → is_pending l.labels j ≡ false
