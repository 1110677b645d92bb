-- The test that a list has a fact, and numbered lists.
use Rattle.std.proofs.Common.{◌≡◌, ℕ, zero, suc, ◌+◌, List, [], ◌∷◌, true, inl, inr, sym, ap₂, subst, ⊎_elim, arith, Some, slice_get}
use Rattle.std.proofs.lemmas.Bool.{or_cases}
use Rattle.herm_model.specs.Lists.{any_pass, IsIn, numbered}
use Rattle.herm_model.proofs.Lists.{or-left, or-right}
use Rattle.herm_model.proofs.Equality.{same_fact-is, same_fact_self}
use Rattle.herm_model.specs.Paths.{Fact, same_fact}

-- a fact that a list has by its test is in the list
pub listed-IsIn : (f : Fact) (fs : List Fact) → any_pass (same_fact f) fs ≡ true → IsIn f fs
listed-IsIn f [] h = cc
listed-IsIn f (g ∷ gs) h =
    ⊎_elim (λ e. inl (same_fact-is f g e)) (λ e. inr (listed-IsIn f gs e)) (or_cases (same_fact f g) (any_pass (same_fact f) gs) h)

pub IsIn-listed : (f : Fact) (fs : List Fact) → IsIn f fs → any_pass (same_fact f) fs ≡ true
IsIn-listed f [] h = absurd h
IsIn-listed f (g ∷ gs) (inl e) = or-left (same_fact f g) (any_pass (same_fact f) gs) (subst (λ z. same_fact f z ≡ true) e (same_fact_self f))
IsIn-listed f (g ∷ gs) (inr h) = or-right (same_fact f g) (any_pass (same_fact f) gs) (IsIn-listed f gs h)

-- the element at a place, among the numbered ones
pub numbered-IsIn : {X : Type 0} (xs : List X) (k i : ℕ) (x : X) → slice_get xs i ≡ Some x → IsIn (k + i, x) (numbered k xs)
numbered-IsIn [] k i x h = cc
numbered-IsIn (y ∷ ys) k zero x h =
    let e : y ≡ x = cc in
    let place : k + zero ≡ k = omega arith in
    inl (ap₂ (λ n z. (n, z)) place (sym e))
numbered-IsIn (y ∷ ys) k (suc i) x h =
    let place : suc k + i ≡ k + suc i = omega arith in
    inr (subst (λ n. IsIn (n, x) (numbered (suc k) ys)) place (numbered-IsIn ys (suc k) i x h))

pub at-numbered : {X : Type 0} (xs : List X) (i : ℕ) (x : X) → slice_get xs i ≡ Some x → IsIn (i, x) (numbered 0 xs)
at-numbered xs i x h = let start : 0 + i ≡ i = omega arith in subst (λ n. IsIn (n, x) (numbered 0 xs)) start (numbered-IsIn xs 0 i x h)

-- an element at a place is in the list
pub got-IsIn : {X : Type 0} (xs : List X) (i : ℕ) (x : X) → slice_get xs i ≡ Some x → IsIn x xs
got-IsIn [] i x h = cc
got-IsIn (y ∷ ys) zero x h = inl (let k : x ≡ y = cc in k)
got-IsIn (y ∷ ys) (suc i) x h = inr (got-IsIn ys i x h)
