-- A name is found at its first place.
use Rattle.std.proofs.Common.{◌≡◌, ◌<◌, ℕ, zero, suc, ◌+◌, Bool, true, false, cond, List, [], ◌∷◌, ◌++◌, length, Option, Some, None, is_some, refl, sym, ◌∙◌, ap, subst, arith, length-append, true≢false, ◌≤◌, not, take, slice_get}
use Rattle.std.specs.Str.{bytes_eq}
use Rattle.std.proofs.lemmas.Slice.Eq.{bytes_eq-Decides}
use Rattle.std.proofs.lemmas.Bool.{eq-eqb, eqb-true}
use Rattle.std.proofs.lemmas.List.Folds.{position_or_len_push}
use Rattle.std.specs.Prelude.{nat_eq}
use Rattle.std.specs.Map.{lookup}
use Rattle.herm_naming.specs.Numbers.{place_of}
use Rattle.herm_numbers.proofs.Passed.{place-position}
use Rattle.herm_numbers.specs.Found.{IsFoundAt, Finds}

pub same-bytes : (a b : List ℕ) → bytes_eq a b ≡ true → a ≡ b
same-bytes a b e = (bytes_eq-Decides a b).0 e

or-else : {X : Type 0} → Option X → Option X → Option X
or-else None o = o
or-else (Some x) o = Some x

lookup-append : {K : Type 0} (test : K → Bool) (es : List (K × ℕ)) (k : K) (v : ℕ) → lookup test (es ++ (k, v) ∷ []) ≡ or-else (lookup test es) (cond (test k) (Some v) None)
unfolding or-else
lookup-append test [] k v = refl
lookup-append {K = K} test (e ∷ es) k v = by (test e.0) (lookup-append test es k v)
  where
    by : (b : Bool) → lookup test (es ++ (k, v) ∷ []) ≡ or-else (lookup test es) (cond (test k) (Some v) None) → cond b (Some e.1) (lookup test (es ++ (k, v) ∷ [])) ≡ or-else (cond b (Some e.1) (lookup test es)) (cond (test k) (Some v) None)
    by true again = refl
    by false again = again

-- the place among one name more
place-push : (names : List (List ℕ)) (x name : List ℕ) → place_of name (names ++ x ∷ []) ≡ cond (nat_eq (place_of name names) (length names)) (length names + cond (bytes_eq name x) 0 1) (place_of name names)
place-push names x name = place-position name (names ++ x ∷ []) ∙ (position_or_len_push (bytes_eq name) names x ∙ ap (λ k. cond (nat_eq k (length names)) (length names + cond (bytes_eq name x) 0 1) k) (sym (place-position name names)))

below : (i n a b : ℕ) → i < n → cond (nat_eq i n) a b ≡ b
below i n a b l = by (nat_eq i n) refl
  where
    by : (t : Bool) → nat_eq i n ≡ t → cond t a b ≡ b
    by true e = absurd (omega (arith, l, eqb-true i n e))
    by false e = refl

at : (i n a b : ℕ) → i ≡ n → cond (nat_eq i n) a b ≡ a
at i n a b e = ap (λ t. cond t a b) (eq-eqb i n e)

longer : (names : List (List ℕ)) (x : List ℕ) → length (names ++ x ∷ []) ≡ length names + 1
longer names x = omega (arith, length-append names (x ∷ []))

found-kept : (o : Option ℕ) (i n j m : ℕ) → IsFoundAt o i n → (i < n → j ≡ i) → m ≡ n + 1 → (o ≡ None → IsFoundAt None j m) → IsFoundAt o j m
found-kept None i n j m f below' more none = none refl
found-kept (Some v) i n j m f below' more none = (f.0 ∙ sym (below' (subst (λ w. w < n) f.0 f.1)), omega (arith, f.1, more))

module _ {K : Type 0} (bytes : K → List ℕ) where
  abbrev search' : List ℕ → List (K × ℕ) → Option ℕ
  search' name es = lookup (λ k. bytes_eq name (bytes k)) es

  -- a new name
  pub finds-new : (names : List (List ℕ)) (es : List (K × ℕ)) (k : K) (x : List ℕ) (n : ℕ) → Finds bytes names es → bytes k ≡ x → length names ≡ n → Finds bytes (names ++ x ∷ []) (es ++ (k, n) ∷ [])
  unfolding or-else
  finds-new names es k x n f e l name =
      rw (lookup-append (λ k'. bytes_eq name (bytes k')) es k n, e)
      (by (search' name es) (bytes_eq name x) refl (f name))
    where
      by : (o : Option ℕ) (b : Bool) → bytes_eq name x ≡ b → IsFoundAt o (place_of name names) (length names) → IsFoundAt (or-else o (cond b (Some n) None)) (place_of name (names ++ x ∷ [])) (length (names ++ x ∷ []))
      by (Some v) b s h = found-kept (Some v) _ _ _ _ h (λ less. place-push names x name ∙ below _ _ _ _ less) (longer names x) (λ none. absurd cc)
      by None true s h = (sym (place-push names x name ∙ (at _ _ _ _ h ∙ (ap (λ b. length names + cond b 0 1) s ∙ omega (arith, l)))), omega (arith, longer names x, l))
      by None false s h = place-push names x name ∙ (at _ _ _ _ h ∙ (ap (λ b. length names + cond b 0 1) s ∙ sym (longer names x)))

  -- a name that is there
  pub finds-old : (names : List (List ℕ)) (es : List (K × ℕ)) (x : List ℕ) → Finds bytes names es → is_some (search' x es) ≡ true → Finds bytes (names ++ x ∷ []) es
  finds-old names es x f there name = by (search' name es) (bytes_eq name x) refl refl (f name)
    where
      by : (o : Option ℕ) (b : Bool) → search' name es ≡ o → bytes_eq name x ≡ b → IsFoundAt o (place_of name names) (length names) → IsFoundAt o (place_of name (names ++ x ∷ [])) (length (names ++ x ∷ []))
      by (Some v) b e s h = found-kept (Some v) _ _ _ _ h (λ less. place-push names x name ∙ below _ _ _ _ less) (longer names x) (λ none. absurd cc)
      by None true e s h = absurd (true≢false (sym there ∙ ap is_some (subst (λ w. search' w es ≡ None) (same-bytes name x s) e)))
      by None false e s h = place-push names x name ∙ (at _ _ _ _ h ∙ (ap (λ b. length names + cond b 0 1) s ∙ sym (longer names x)))

pub none-there : {X : Type 0} (o : Option X) → is_some o ≡ false → o ≡ None
none-there None e = refl
none-there (Some x) e = absurd (true≢false e)

-- one more of the elements from the left
next-taken : {X : Type 0} (xs : List X) (n : ℕ) (x : X) → slice_get xs n ≡ Some x → take (n + 1) xs ≡ take n xs ++ x ∷ []
next-taken [] n x e = absurd (let k : ⊥ = cc in k)
next-taken (y ∷ xs) zero x e = ap (λ z. z ∷ []) (let k : y ≡ x = cc in k)
next-taken (y ∷ xs) (suc n) x e = ap (λ k. take k (y ∷ xs)) (let k : suc n + 1 ≡ suc (n + 1) = omega arith in k) ∙ ap (y ∷◌) (next-taken xs n x e)

pub taken_next : {X : Type 0} (found new : List X) (v : X) (xs : List X) (n : ℕ) (x : X) → new ≡ found ++ v ∷ [] → found ≡ take n xs → v ≡ x → slice_get xs n ≡ Some x → new ≡ take (n + 1) xs
taken_next found new v xs n x e f h k = e ∙ (ap (λ ys. ys ++ v ∷ []) f ∙ (ap (λ z. take n xs ++ z ∷ []) h ∙ sym (next-taken xs n x k)))
