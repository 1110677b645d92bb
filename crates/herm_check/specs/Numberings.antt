-- Sets of numbers as sets of the facts that have these numbers.
use Rattle.std.specs.Prelude.{◌≡◌, ℕ, List, Bool, true, false, Some}
use Rattle.herm_model.specs.Lists.{IsIn, map_or}
use Rattle.herm_model.specs.Paths.{Fact}
use Rattle.herm_facts.specs.declared.fact_numbers.FactNumbers.{FactNumbers}
use Rattle.herm_facts.specs.declared.number_set.NumberSet.{NumberSet}
use Rattle.herm_facts.specs.FactNumbers.{number_of}
use Rattle.herm_facts.specs.NumberSets.{has_number}

-- the fact's number is in the set
abbrev pub in_set : FactNumbers → NumberSet → Fact → Bool
in_set ns set f = map_or false (has_number set) (number_of ns f)

abbrev pub HasNumber : FactNumbers → Fact → Type 0
HasNumber ns f = (n : ℕ) × (number_of ns f ≡ Some n)

-- each number in the set is that of a fact
abbrev pub AreOfFacts : FactNumbers → NumberSet → Type 0
AreOfFacts ns set = (n : ℕ) → has_number set n ≡ true → (f : Fact) × (number_of ns f ≡ Some n)

-- these facts have numbers, and no others
pub record HaveNumbers (facts : List Fact) (ns : FactNumbers) : Type 0 where
  pub all : (f : Fact) → IsIn f facts → HasNumber ns f
  pub only : (f : Fact) (n : ℕ) → number_of ns f ≡ Some n → IsIn f facts
