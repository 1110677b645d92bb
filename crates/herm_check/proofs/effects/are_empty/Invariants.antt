use Rattle.std.proofs.Common.{◌≡◌, ℕ, ◌<◌, false}
use Rattle.herm_facts.specs.NumberSets.{has_at}
use Rattle.herm_check.proofs.effects.are_empty.Given as goal

abbrev pub invariant-loop-i : goal.invariant-loop-i
invariant-loop-i l = (i j : ℕ) → i < l.i → has_at l.words i j ≡ false
