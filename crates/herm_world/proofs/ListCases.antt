-- What is found in a list with one element changed, or one more.
use Rattle.std.proofs.Common.{◌≡◌, ℕ, zero, suc, List, [], ◌∷◌, ◌++◌, length, Bool, true, false, Some, None, inl, inr, refl, sym, ap, nat_eq, arith}
use Rattle.std.specs.Prelude.{slice_get, slice_set, ◌⊎◌}
use Rattle.std.proofs.lemmas.Bool.Decides.{nat_tests}
use Rattle.herm_model.proofs.Options.{none-not_some, some-injective}

pub next-same : (n m : ℕ) (b : Bool) → nat_eq n m ≡ b → nat_eq (suc n) (suc m) ≡ b
next-same n m true e = grind (arith, nat_tests)
next-same n m false e = grind (arith, nat_tests)

-- the element of this number is the one that was set, or is as before
pub set-cases : {X : Type 0} (xs : List X) (n m : ℕ) (y z : X) → slice_get (slice_set xs n y) m ≡ Some z → ((nat_eq n m ≡ true) × (y ≡ z)) ⊎ ((nat_eq n m ≡ false) × (slice_get xs m ≡ Some z))
set-cases [] n m y z e = none-not_some e
set-cases (x ∷ xs) zero zero y z e = inl (refl, some-injective e)
set-cases (x ∷ xs) zero (suc m) y z e = inr (grind (arith, nat_tests), e)
set-cases (x ∷ xs) (suc n) zero y z e = inr (grind (arith, nat_tests), e)
set-cases (x ∷ xs) (suc n) (suc m) y z e = elim (set-cases xs n m y z e) [ inl h ↦ inl (next-same n m true h.0, h.1) | inr h ↦ inr (next-same n m false h.0, h.1) ]

pub set-none : {X : Type 0} (xs : List X) (n m : ℕ) (y : X) → slice_get (slice_set xs n y) m ≡ None → slice_get xs m ≡ None
set-none [] n m y e = e
set-none (x ∷ xs) zero zero y e = none-not_some (sym e)
set-none (x ∷ xs) zero (suc m) y e = e
set-none (x ∷ xs) (suc n) zero y e = e
set-none (x ∷ xs) (suc n) (suc m) y e = set-none xs n m y e

pub set-there : {X : Type 0} (xs : List X) (n : ℕ) (x y : X) → slice_get xs n ≡ Some x → slice_get (slice_set xs n y) n ≡ Some y
set-there [] n x y e = none-not_some e
set-there (z ∷ xs) zero x y e = refl
set-there (z ∷ xs) (suc n) x y e = set-there xs n x y e

pub push-cases : {X : Type 0} (xs : List X) (m : ℕ) (y z : X) → slice_get (xs ++ y ∷ []) m ≡ Some z → (slice_get xs m ≡ Some z) ⊎ ((slice_get xs m ≡ None) × (m ≡ length xs) × (y ≡ z))
push-cases [] zero y z e = inr (refl, refl, some-injective e)
push-cases [] (suc m) y z e = none-not_some e
push-cases (x ∷ xs) zero y z e = inl e
push-cases (x ∷ xs) (suc m) y z e = elim (push-cases xs m y z e) [ inl h ↦ inl h | inr h ↦ inr (h.0, ap suc h.1, h.2) ]

pub joined-none : {X : Type 0} (xs ys : List X) (m : ℕ) → slice_get (xs ++ ys) m ≡ None → slice_get xs m ≡ None
joined-none [] ys m e = refl
joined-none (x ∷ xs) ys zero e = none-not_some (sym e)
joined-none (x ∷ xs) ys (suc m) e = joined-none xs ys m e

-- what is set to itself changes nothing
pub set-itself : {X : Type 0} (xs : List X) (n : ℕ) (x : X) → slice_get xs n ≡ Some x → slice_set xs n x ≡ xs
set-itself [] n x e = none-not_some e
set-itself (y ∷ xs) zero x e = ap (λ x. x ∷ xs) (sym (some-injective e))
set-itself (y ∷ xs) (suc n) x e = ap (y ∷◌) (set-itself xs n x e)
