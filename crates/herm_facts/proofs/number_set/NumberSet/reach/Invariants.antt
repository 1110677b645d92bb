use Rattle.std.proofs.Common.{◌≡◌, ℕ, ◌+◌, ◌-◌, length}
use Rattle.herm_facts.specs.NumberSets.{has_at}
use Rattle.herm_facts.proofs.number_set.NumberSet.reach.Given as goal

abbrev pub invariant-loop-self : goal.invariant-loop-self
invariant-loop-self l = (i j : ℕ) → has_at l.self.words.items i j ≡ has_at l.initial.self.words.items i j

abbrev pub decreases-loop-self : goal.decreases-loop-self
decreases-loop-self l = (l.at + 1) - length l.self.words.items
