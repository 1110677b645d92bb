-- Sets of numbers below 64.
use Rattle.std.specs.Prelude.{ℕ, Bool, ◌==◌}
use Rattle.std.specs.Int.{bit_at}
use Rattle.herm_facts.specs.declared.fact_set.FactSet.{FactSet}

-- the number is in the set
abbrev pub has : FactSet → ℕ → Bool
has s j = bit_at s.bits j == 1
