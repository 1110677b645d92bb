-- Rising lists of numbers: one number put in or taken out, and the first from a number on.
use Rattle.std.specs.Prelude.{ℕ, List, [], ◌∷◌, Bool, cond, nat_eq, nat_lt, Option, Some, None, ◌<◌, ⊤}
use Rattle.herm_model.specs.Lists.{any_pass}

-- the number is in the list, by a test
abbrev pub has : ℕ → List ℕ → Bool
has q ps = any_pass (nat_eq q) ps

-- each number is less than the next one
abbrev pub AreAbove : ℕ → List ℕ → Type 0
AreAbove p [] = ⊤
AreAbove p (q ∷ qs) = (p < q) × AreAbove q qs

abbrev pub AreRising : List ℕ → Type 0
AreRising [] = ⊤
AreRising (p ∷ ps) = AreAbove p ps

-- with a number put in at its place, where it is not there yet
abbrev pub inserted : ℕ → List ℕ → List ℕ
inserted q [] = q ∷ []
inserted q (p ∷ ps) = cond (nat_lt q p) (q ∷ p ∷ ps) (cond (nat_eq q p) (p ∷ ps) (p ∷ inserted q ps))

-- without a number
abbrev pub removed : ℕ → List ℕ → List ℕ
removed q [] = []
removed q (p ∷ ps) = cond (nat_eq q p) (removed q ps) (p ∷ removed q ps)

-- the first number from this one on
abbrev pub next_from : ℕ → List ℕ → Option ℕ
next_from p [] = None
next_from p (q ∷ qs) = cond (nat_lt q p) (next_from p qs) (Some q)
