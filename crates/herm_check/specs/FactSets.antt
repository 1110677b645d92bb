-- How many numbers sets do not have.
use Rattle.std.specs.Prelude.{ℕ, zero, suc, ◌+◌, List, cond}
use Rattle.herm_model.specs.Lists.{total}
use Rattle.herm_facts.specs.declared.fact_set.FactSet.{FactSet}
use Rattle.herm_facts.specs.FactSets.{has}

-- how many of so many first numbers are not in the set
abbrev pub lacking : ℕ → FactSet → ℕ
lacking zero s = 0
lacking (suc n) s = cond (has s n) 0 1 + lacking n s

-- how many of the numbers below 64 are in none of the sets, counted for each
abbrev pub unseen : List FactSet → ℕ
unseen sets = total (lacking 64) sets
