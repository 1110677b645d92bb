-- An index of names that differ has them all in order.
use Rattle.std.proofs.Common.{◌≡◌, ◌<◌, ℕ, suc, ◌+◌, Bool, true, false, cond, List, [], ◌∷◌, ◌++◌, length, map, take, drop, get_or, refl, sym, ◌∙◌, ap, subst, inl, inr, true≢false, add-one}
use Rattle.std.specs.Prelude.{if◌then◌else◌, ◌||◌}
use Rattle.std.specs.Str.{bytes_eq}
use Rattle.std.proofs.lemmas.Slice.Eq.{bytes_eq-Decides}
use Rattle.std.proofs.Math.Seq.{split_at}
use Rattle.std.proofs.lemmas.List.{take_more}
use Rattle.std.specs.List.{list_any}
use Rattle.herm_model.specs.Lists.{IsIn}
use Rattle.herm_model.specs.Statements.{Differ}

any-map : {X : Type 0} (test : List ℕ → Bool) (f : X → List ℕ) (xs : List X) → list_any (λ x. test (f x)) xs ≡ list_any test (map f xs)
any-map test f [] = refl
any-map test f (x ∷ xs) = rw (any-map test f xs) refl

-- what stands behind others that differ is not among them
absent : (front rest : List (List ℕ)) (x : List ℕ) → Differ (front ++ x ∷ rest) → IsIn x front → ⊥
absent [] rest x d h = h
absent (y ∷ front) rest x d (inl e) = d.0 (among front)
  where
    among : (front : List (List ℕ)) → IsIn y (front ++ x ∷ rest)
    among [] = inl (sym e)
    among (z ∷ front) = inr (among front)
absent (y ∷ front) rest x d (inr h) = absent front rest x d.1 h

same-bytes : (a b : List ℕ) → bytes_eq a b ≡ true → a ≡ b
same-bytes a b e = (bytes_eq-Decides a b).0 e

found : (x : List ℕ) (xs : List (List ℕ)) → list_any (bytes_eq x) xs ≡ true → IsIn x xs
found x [] e = absurd cc
found x (y ∷ ys) e = by (bytes_eq x y) refl (found x ys) e
  where
    by : (b : Bool) → bytes_eq x y ≡ b → (list_any (bytes_eq x) ys ≡ true → IsIn x ys) → (b || list_any (bytes_eq x) ys) ≡ true → IsIn x (y ∷ ys)
    by true s again h = inl (same-bytes x y s)
    by false s again h = inr (again h)

not-any : (x : List ℕ) (xs : List (List ℕ)) → (IsIn x xs → ⊥) → list_any (bytes_eq x) xs ≡ false
not-any x xs n = by (list_any (bytes_eq x) xs) refl
  where
    by : (b : Bool) → list_any (bytes_eq x) xs ≡ b → b ≡ false
    by true e = absurd (n (found x xs e))
    by false e = refl

map-snoc : {X : Type 0} (f : X → List ℕ) (xs : List X) (x : X) → map f (xs ++ x ∷ []) ≡ map f xs ++ f x ∷ []
map-snoc f [] x = refl
map-snoc f (y ∷ ys) x = ap (f y ∷◌) (map-snoc f ys x)

-- one name more is indexed
pub indexed-more : {X : Type 0} (bytes : X → List ℕ) (keys : List X) (names : List (List ℕ)) (i : ℕ) (k : X) (d : List ℕ) → Differ names → i < length names → map bytes keys ≡ take i names → bytes k ≡ get_or names i d → map bytes (if list_any (λ x. bytes_eq (bytes k) (bytes x)) keys then keys else (keys ++ k ∷ [])) ≡ take (i + 1) names
indexed-more bytes keys names i k d differ l before is =
    rw (any-map (bytes_eq (bytes k)) bytes keys, before, not-any (bytes k) (take i names) (λ h. absent (take i names) (drop (suc i) names) (bytes k) (subst (λ ns. Differ ns) (split_at names i d l ∙ ap (λ x. take i names ++ x ∷ drop (suc i) names) (sym is)) differ) h), map-snoc bytes keys k, before, is)
    (sym (take_more names i d l))
