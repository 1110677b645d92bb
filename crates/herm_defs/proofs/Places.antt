-- The place of a name among others.
use Rattle.std.proofs.Common.{◌≡◌, ◌<◌, ◌≤◌, ℕ, zero, suc, ◌+◌, Bool, true, false, cond, not, nat_lt, List, [], ◌∷◌, length, take, Some, slice_get, refl, sym, ◌∙◌, ap, subst, arith, true≢false, ◌⊎◌, inl, inr, get_or, drop, drop-cons, add-one}
use Rattle.std.specs.Str.{bytes_eq}
use Rattle.std.proofs.lemmas.Slice.Eq.{bytes_eq-Decides}
use Rattle.std.proofs.lemmas.Bool.{ltb-true, ltb-false}
use Rattle.herm_model.specs.Lists.{IsIn}
use Rattle.herm_meaning.specs.Walks.{place_of}
use Rattle.herm_graph.specs.Tells.{Tells}
use Rattle.herm_defs.proofs.Finding.{same-bytes, place-within}

pub equal-bytes : (a b : List ℕ) → a ≡ b → bytes_eq a b ≡ true
equal-bytes a b e = (bytes_eq-Decides a b).1 e

-- a name that is there stands at its place
pub at-place : (names : List (List ℕ)) (name : List ℕ) → place_of names name < length names → slice_get names (place_of names name) ≡ Some name
at-place [] name l = absurd (omega (arith, l))
at-place (n ∷ ns) name l = by (bytes_eq name n) refl l (at-place ns name)
  where
    by : (b : Bool) → bytes_eq name n ≡ b → cond (not b) (1 + place_of ns name) 0 < length (n ∷ ns) → (place_of ns name < length ns → slice_get ns (place_of ns name) ≡ Some name) → slice_get (n ∷ ns) (cond (not b) (1 + place_of ns name) 0) ≡ Some name
    by true e l again = ap Some (sym (same-bytes name n e))
    by false e l again = subst (λ i. slice_get (n ∷ ns) i ≡ Some name) {x = suc (place_of ns name)} {y = 1 + place_of ns name} (omega arith) (again (omega (arith, l)))

pub there-below : (names : List (List ℕ)) (name : List ℕ) → IsIn name names → place_of names name < length names
there-below [] name i = absurd i
there-below (n ∷ ns) name i = by (bytes_eq name n) refl i (there-below ns name)
  where
    by : (b : Bool) → bytes_eq name n ≡ b → IsIn name (n ∷ ns) → (IsIn name ns → place_of ns name < length ns) → cond (not b) (1 + place_of ns name) 0 < length (n ∷ ns)
    by true e j again = omega arith
    by false e (inl same) again = absurd (true≢false (sym (equal-bytes name n same) ∙ e))
    by false e (inr j) again = omega (arith, again j)

-- it stands among the first ones exactly where its place is below their number
before-to : (names : List (List ℕ)) (name : List ℕ) (number : ℕ) → place_of names name < number → place_of names name < length names → IsIn name (take number names)
before-to names name zero l w = absurd (omega (arith, l))
before-to [] name (suc n) l w = absurd (omega (arith, w))
before-to (x ∷ xs) name (suc n) l w = by (bytes_eq name x) refl l w (before-to xs name n)
  where
    by : (b : Bool) → bytes_eq name x ≡ b → cond (not b) (1 + place_of xs name) 0 < suc n → cond (not b) (1 + place_of xs name) 0 < length (x ∷ xs) → (place_of xs name < n → place_of xs name < length xs → IsIn name (take n xs)) → (name ≡ x) ⊎ IsIn name (take n xs)
    by true e l w again = inl (same-bytes name x e)
    by false e l w again = inr (again (omega (arith, l)) (omega (arith, w)))

before-from : (names : List (List ℕ)) (name : List ℕ) (number : ℕ) → IsIn name (take number names) → (place_of names name < number) × (place_of names name < length names)
before-from names name zero i = absurd i
before-from [] name (suc n) i = absurd i
before-from (x ∷ xs) name (suc n) i = by (bytes_eq name x) refl i (before-from xs name n)
  where
    by : (b : Bool) → bytes_eq name x ≡ b → (name ≡ x) ⊎ IsIn name (take n xs) → (IsIn name (take n xs) → (place_of xs name < n) × (place_of xs name < length xs)) → (cond (not b) (1 + place_of xs name) 0 < suc n) × (cond (not b) (1 + place_of xs name) 0 < length (x ∷ xs))
    by true e j again = (omega arith, omega arith)
    by false e (inl same) again = absurd (true≢false (sym (equal-bytes name x same) ∙ e))
    by false e (inr j) again = let r = again j in (omega (arith, r.0), omega (arith, r.1))

pub before-then : (names : List (List ℕ)) (name : List ℕ) (number place : ℕ) → place ≡ place_of names name → place < number → Tells (nat_lt place (length names)) (IsIn name (take number names))
before-then names name number place e l = by (nat_lt place (length names)) refl
  where
    by : (b : Bool) → nat_lt place (length names) ≡ b → Tells b (IsIn name (take number names))
    by true q = before-to names name number (omega (arith, e, l)) (omega (arith, e, ltb-true place (length names) q))
    by false q = λ i. omega (arith, e, ltb-false place (length names) q, (before-from names name number i).1)

pub before-else : (names : List (List ℕ)) (name : List ℕ) (number place : ℕ) → place ≡ place_of names name → number ≤ place → Tells (nat_lt place number) (IsIn name (take number names))
before-else names name number place e l = by (nat_lt place number) refl
  where
    by : (b : Bool) → nat_lt place number ≡ b → Tells b (IsIn name (take number names))
    by true q = absurd (omega (arith, ltb-true place number q, l))
    by false q = λ i. omega (arith, e, l, (before-from names name number i).0)

-- ---- looked at in turn

pub place-here : (words : List (List ℕ)) (i : ℕ) (x name : List ℕ) → i < length words → x ≡ get_or words i x → bytes_eq name x ≡ true → place_of words name ≡ i + place_of (drop i words) name → i ≡ place_of words name
place-here words i x name l e same before =
    let first : place_of (drop i words) name ≡ 0 = ap (λ xs. place_of xs name) (drop-cons words i x l) ∙ ap (λ (b : Bool). cond (not b) (1 + place_of (drop (suc i) words) name) 0) (ap (bytes_eq name) (sym e) ∙ same) in
    omega (arith, before, first)

pub place-further : (words : List (List ℕ)) (i : ℕ) (x name : List ℕ) → i < length words → x ≡ get_or words i x → bytes_eq name x ≡ false → place_of words name ≡ i + place_of (drop i words) name → place_of words name ≡ i + 1 + place_of (drop (i + 1) words) name
place-further words i x name l e other before =
    let next : place_of (drop i words) name ≡ 1 + place_of (drop (suc i) words) name = ap (λ xs. place_of xs name) (drop-cons words i x l) ∙ ap (λ (b : Bool). cond (not b) (1 + place_of (drop (suc i) words) name) 0) (ap (bytes_eq name) (sym e) ∙ other) in
    rw add-one (omega (arith, before, next))

pub place-end : (words : List (List ℕ)) (i : ℕ) (name : List ℕ) → length words ≤ i → place_of words name ≡ i + place_of (drop i words) name → length words ≡ place_of words name
place-end words i name l before = omega (arith, before, l, place-within words name)
