use Rattle.std.proofs.Common.{◌≡◌, ℕ, take}
use Rattle.herm_model.specs.Lists.{any_pass}
use Rattle.herm_facts.specs.FactSets.{has}
use Rattle.herm_facts.specs.NumberSets.{has_at}
use Rattle.herm_check.proofs.effects.joined.Given as goal

abbrev pub invariant-loop-at : goal.invariant-loop-at
invariant-loop-at l = (j : ℕ) → has l.all j ≡ any_pass (λ m. has_at l.words m j) (take l.at-index l.places)
