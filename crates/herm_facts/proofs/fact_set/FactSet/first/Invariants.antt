use Rattle.std.proofs.Common.{◌≡◌, ℕ, nat_lt}
use Rattle.herm_facts.specs.FactSets.{has}
use Rattle.herm_facts.proofs.fact_set.FactSet.first.Given as goal

abbrev pub invariant-loop-number : goal.invariant-loop-number
invariant-loop-number l = (j : ℕ) → has l.first j ≡ nat_lt j l.number
