-- Places of names, of which the first counts.
use Rattle.std.proofs.Common.{◌≡◌, inl, inr, ℕ, zero, suc, ◌+◌, ◌<◌, List, [], ◌∷◌, map, take, length, slice_get, Bool, true, false, Some, IsTrue, refl, sym, ◌∙◌, ap, subst, arith, true≢false}
use Rattle.std.specs.Str.{bytes_eq}
use Rattle.std.proofs.lemmas.Slice.Eq.{bytes_eq-Decides}
use Rattle.herm_model.specs.Lists.{IsIn}
use Rattle.herm_model.specs.Statements.{Differ}
use Rattle.herm_model.proofs.Lists.{in-map_from}
use Rattle.herm_model.proofs.Options.{some-injective, none-not_some}
use Rattle.herm_syntax.specs.Trees.{Letters}
use Rattle.herm_meaning.specs.Walks.{place_of}

pub place-first : (n : Letters) (names : List Letters) (x : Letters) → bytes_eq x n ≡ true → place_of (n ∷ names) x ≡ 0
place-first n names x e = rw e refl

pub place-later : (n : Letters) (names : List Letters) (x : Letters) → bytes_eq x n ≡ false → place_of (n ∷ names) x ≡ suc (place_of names x)
place-later n names x e = rw e (let one : 1 + place_of names x ≡ suc (place_of names x) = omega arith in one)

same-bytes : (x n : Letters) → bytes_eq x n ≡ true → x ≡ n
same-bytes x n e = (bytes_eq-Decides x n).0 e

bytes-same : (x n : Letters) → x ≡ n → bytes_eq x n ≡ true
bytes-same x n e = (bytes_eq-Decides x n).1 e

-- the name stands at its place
pub at-place : (names : List Letters) (x : Letters) → place_of names x < length names → slice_get names (place_of names x) ≡ Some x
at-place [] x l = absurd (omega (arith, l))
at-place (n ∷ names) x l = by (bytes_eq x n) refl (at-place names x)
  where
    by : (b : Bool) → bytes_eq x n ≡ b → (place_of names x < length names → slice_get names (place_of names x) ≡ Some x) → slice_get (n ∷ names) (place_of (n ∷ names) x) ≡ Some x
    by true e again = ap (slice_get (n ∷ names)) (place-first n names x e) ∙ ap Some (sym (same-bytes x n e))
    by false e again = ap (slice_get (n ∷ names)) (place-later n names x e) ∙ again (omega (arith, l, place-later n names x e))

-- names of one place are one
pub one-place : (names : List Letters) (x y : Letters) → place_of names x ≡ place_of names y → place_of names x < length names → x ≡ y
one-place names x y e l = some-injective (sym (at-place names x l) ∙ (ap (slice_get names) e ∙ at-place names y (omega (arith, e, l))))

in-at : {X : Type 0} (xs : List X) (i : ℕ) (x : X) → slice_get xs i ≡ Some x → IsIn x xs
in-at [] i x e = none-not_some e
in-at (y ∷ xs) zero x e = inl (sym (some-injective e))
in-at (y ∷ xs) (suc i) x e = inr (in-at xs i x e)

-- where names differ, what stands at a place has it
pub its-place : (names : List Letters) (i : ℕ) (x : Letters) → Differ names → slice_get names i ≡ Some x → place_of names x ≡ i
its-place [] i x d e = none-not_some e
its-place (n ∷ names) zero x d e = place-first n names x (bytes-same x n (sym (some-injective e)))
its-place (n ∷ names) (suc i) x d e = by (bytes_eq x n) refl (its-place names i x d.1 e)
  where
    by : (b : Bool) → bytes_eq x n ≡ b → place_of names x ≡ i → place_of (n ∷ names) x ≡ suc i
    by true s again = absurd (d.0 (subst (λ w. IsIn w names) (same-bytes x n s) (in-at names i x e)))
    by false s again = place-later n names x s ∙ ap suc again

pub at-in : {X : Type 0} (xs : List X) (x : X) → IsIn x xs → (i : ℕ) × (slice_get xs i ≡ Some x)
at-in [] x h = absurd h
at-in (y ∷ xs) x (inl e) = (0, ap Some (sym e))
at-in (y ∷ xs) x (inr h) = let r = at-in xs x h in (suc r.0, r.1)

-- none stands among those before it, so they differ
pub differ-before : {X : Type 0} (xs : List X) → ((k : ℕ) (x : X) → slice_get xs k ≡ Some x → IsIn x (take k xs) → ⊥) → Differ xs
differ-before [] h = tt
differ-before (y ∷ xs) h = (λ i. let r = at-in xs y i in h (suc r.0) y r.1 (inl refl), differ-before xs (λ k x e i. h (suc k) x e (inr i)))

-- names that differ, and are there, have places that differ
pub places-differ : (names xs : List Letters) → Differ xs → ((x : Letters) → IsIn x xs → place_of names x < length names) → Differ (map (place_of names) xs)
places-differ names [] d known = tt
places-differ names (x ∷ xs) d known = (among, places-differ names xs d.1 (λ y i. known y (inr i)))
  where
    among : IsIn (place_of names x) (map (place_of names) xs) → ⊥
    among h =
        let from = in-map_from (place_of names) (place_of names x) xs h in
        d.0 (subst (λ w. IsIn w xs) (sym (one-place names x from.0 from.2 (known x (inl refl)))) from.1)

-- what is not false is true
pub stable : (b : Bool) → ((IsTrue b → ⊥) → ⊥) → IsTrue b
stable true h = refl
stable false h = absurd (h (λ e. true≢false (sym e)))
