use Rattle.std.proofs.Common.{◌≡◌, ℕ, ◌+◌, ◌-◌, List, length}
use Rattle.herm_facts.specs.Numbers.{numbers_at}
use Rattle.herm_facts.proofs.numbered.reach.Given as goal

abbrev pub invariant-loop-alloc : goal.invariant-loop-alloc
invariant-loop-alloc l = (q : List ℕ) → numbers_at l.trees.items q ≡ numbers_at l.initial.trees.items q

abbrev pub decreases-loop-alloc : goal.decreases-loop-alloc
decreases-loop-alloc l = (l.at + 1) - length l.trees.items
