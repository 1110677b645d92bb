-- Words on lists that compute on the first element.
use Rattle.std.specs.Prelude.{ℕ, zero, suc, ◌+◌, List, [], ◌∷◌, Bool, true, false, ◌&&◌, ◌||◌, ◌≡◌, ◌⊎◌, Option, Some, None, nat_eq}

-- the element is in the list
abbrev pub IsIn : {X : Type 0} → X → List X → Type 0
IsIn x [] = ⊥
IsIn x (y ∷ ys) = (x ≡ y) ⊎ IsIn x ys

-- each element passes the test
abbrev pub all_pass : {X : Type 0} → (X → Bool) → List X → Bool
all_pass test [] = true
all_pass test (x ∷ xs) = test x && all_pass test xs

-- some element passes the test
abbrev pub any_pass : {X : Type 0} → (X → Bool) → List X → Bool
any_pass test [] = false
any_pass test (x ∷ xs) = test x || any_pass test xs

-- the elements with their places, from a first place on
abbrev pub numbered : {X : Type 0} → ℕ → List X → List (ℕ × X)
numbered i [] = []
numbered i (x ∷ xs) = (i, x) ∷ numbered (suc i) xs

-- what a function makes of what an option holds, or a value for none
abbrev pub map_or : {X Y : Type 0} → Y → (X → Y) → Option X → Y
map_or y f None = y
map_or y f (Some x) = f x

-- the list that a function makes of what an option holds
abbrev pub list_of : {X Y : Type 0} → (X → List Y) → Option X → List Y
list_of f o = map_or [] f o

-- the two lists of numbers are equal
abbrev pub same_numbers : List ℕ → List ℕ → Bool
same_numbers [] [] = true
same_numbers [] (n ∷ ns) = false
same_numbers (m ∷ ms) [] = false
same_numbers (m ∷ ms) (n ∷ ns) = nat_eq m n && same_numbers ms ns

-- the sum of what a function gives at each element
abbrev pub total : {X : Type 0} → (X → ℕ) → List X → ℕ
total f [] = 0
total f (x ∷ xs) = f x + total f xs

-- so many numbers in order, from a first one on
abbrev pub range : ℕ → ℕ → List ℕ
range i zero = []
range i (suc n) = i ∷ range (suc i) n
