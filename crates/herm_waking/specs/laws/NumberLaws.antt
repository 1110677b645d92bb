-- What is claimed of rising lists of numbers.
use Rattle.std.specs.Prelude.{ℕ, List, true, false, cond, ◌||◌, nat_eq, Some, None, ◌≡◌, ◌≤◌, ◌<◌}
use Rattle.herm_waking.specs.Numbers.{has, AreRising, inserted, removed, next_from}

-- Rising lists with the same members are equal.
abbrev pub RisingAreKnown : Type 0
RisingAreKnown = (xs ys : List ℕ) → AreRising xs → AreRising ys → ((r : ℕ) → has r xs ≡ has r ys) → xs ≡ ys

-- A number put in is there, one taken out is not, and the others are as before.
abbrev pub InsertedIsThere : Type 0
InsertedIsThere = (q : ℕ) (ps : List ℕ) → AreRising ps → AreRising (inserted q ps) × ((r : ℕ) → has r (inserted q ps) ≡ (nat_eq r q || has r ps))

abbrev pub RemovedIsGone : Type 0
RemovedIsGone = (q : ℕ) (ps : List ℕ) → AreRising ps → AreRising (removed q ps) × ((r : ℕ) → has r (removed q ps) ≡ cond (nat_eq r q) false (has r ps))

-- The first number from one on is in the list, and none between is; where there is none, all are below.
abbrev pub NextIsFirst : Type 0
NextIsFirst = (p q : ℕ) (ps : List ℕ) → AreRising ps → next_from p ps ≡ Some q → (has q ps ≡ true) × (p ≤ q) × ((r : ℕ) → has r ps ≡ true → p ≤ r → q ≤ r)

abbrev pub NoneIsNext : Type 0
NoneIsNext = (p : ℕ) (ps : List ℕ) → next_from p ps ≡ None → (r : ℕ) → has r ps ≡ true → r < p
