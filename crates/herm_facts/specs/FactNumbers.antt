-- The numbers of facts.
use Rattle.std.specs.Prelude.{◌≡◌, ◌↔◌, ℕ, List, Option, Some, slice_get}
use Rattle.herm_model.specs.Paths.{Fact}
use Rattle.herm_facts.specs.declared.fact_numbers.FactNumbers.{FactNumbers}
use Rattle.herm_facts.specs.Numbers.{number_in}

-- the number of the fact
unfoldable pub number_of : FactNumbers → Fact → Option ℕ
number_of s f = number_in s.trees.items f

-- The list is that of the facts by their numbers: each of them stands at its number and no fact else has one. So the numbers are those below the length of the list, and no two facts share one.
abbrev pub AreFacts : FactNumbers → List Fact → Type 0
AreFacts s fs = (f : Fact) (n : ℕ) → (slice_get fs n ≡ Some f) ↔ (number_of s f ≡ Some n)

-- no two facts have the same number
abbrev pub AreApart : FactNumbers → Type 0
AreApart s = (f g : Fact) (n : ℕ) → number_of s f ≡ Some n → number_of s g ≡ Some n → f ≡ g
