use Rattle.std.proofs.Common.{◌≡◌, ◌||◌, ℕ, nat_eq, take}
use Rattle.herm_model.specs.Lists.{any_pass}
use Rattle.herm_facts.specs.NumberSets.{has_number}
use Rattle.herm_facts.proofs.number_set.NumberSet.insert_all.Given as goal

abbrev pub invariant-loop-number : goal.invariant-loop-number
invariant-loop-number l = (n : ℕ) → has_number l.self n ≡ (any_pass (nat_eq n) (take l.number-index l.numbers) || has_number l.initial.self n)
