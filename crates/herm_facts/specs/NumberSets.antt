-- Sets of numbers, 64 to a word.
use Rattle.std.specs.Prelude.{ℕ, ◌/◌, ◌%◌, List, Bool, false, slice_get}
use Rattle.herm_model.specs.Lists.{map_or}
use Rattle.herm_facts.specs.declared.fact_set.FactSet.{FactSet}
use Rattle.herm_facts.specs.declared.number_set.NumberSet.{NumberSet}
use Rattle.herm_facts.specs.FactSets.{has}

-- the word at this place has the number; behind the last word there is none
abbrev pub has_at : List FactSet → ℕ → ℕ → Bool
has_at words i j = map_or false (λ w. has w j) (slice_get words i)

-- the number is in the set
unfoldable pub has_number : NumberSet → ℕ → Bool
has_number s n = has_at s.words.items (n / 64) (n % 64)
