-- Keys are the same where their literals are.
use Rattle.std.proofs.Common.{◌≡◌, ℕ, zero, suc, ◌+◌, ◌<◌, ◌≤◌, List, [], ◌∷◌, ◌++◌, map, Bool, true, false, ◌&&◌, ◌||◌, cond, nat_eq, nat_lt, length, Option, Some, None, pos, negsuc, drop, append_assoc, refl, sym, ap, ap₂, subst, ◌∙◌, true≢false, IsTrue, arith}
use Rattle.std.specs.List.{slice_get, list_any, position, position_or_len}
use Rattle.std.specs.Prelude.{if◌then◌else◌, not, ℤ}
use Rattle.std.specs.Str.{bytes_eq}
use Rattle.std.specs.Ordering.{int_eq}
use Rattle.std.specs.Cmp.{signed_Decides}
use Rattle.std.proofs.lemmas.List.{map-append}
use Rattle.std.proofs.lemmas.List.Recursion.{is_position_or_len}
use Rattle.std.proofs.lemmas.Bool.{ltb-false}
use Rattle.std.proofs.lemmas.List.Sums.{prefix_len-le-length}
use Rattle.herm_model.specs.Lists.{any_pass, same_numbers}
use Rattle.herm_model.specs.Tables.{same_boolean, same_integer}
use Rattle.herm_model.specs.Expressions.{Literal}
use Rattle.herm_model.proofs.Equality.{same_integer-is}
use Rattle.herm_translated.specs.Constants.{same_literal, place_of}
use Rattle.herm_translated.proofs.FoundConstants.{same_literal-is, same_literal_self}
use Rattle.herm_fronts.specs.declared.constants.Key.{Key}
use Rattle.herm_fronts.specs.declared.constants.Key.TheVariants.{Bool as Truth, Int, Text, Tag}
use Rattle.herm_fronts.specs.contracts.constants.KeyPartialEq.TheImpl.{eq-value}
use Rattle.herm_fronts.specs.Shared.{with_literal}
use Rattle.herm_fronts.specs.View.{key_view}

-- two tests that are true together are equal
together : (a b : Bool) → (a ≡ true → b ≡ true) → (b ≡ true → a ≡ true) → a ≡ b
together true b f g = sym (f refl)
together false true f g = g refl
together false false f g = refl

booleans_same : (a b : Bool) → eq-value.it (Truth a) (Truth b) ≡ same_boolean a b
booleans_same true true = refl
booleans_same true false = refl
booleans_same false true = refl
booleans_same false false = refl

integer_self : (a : ℤ) → same_integer a a ≡ true
integer_self a = same_literal_self (Literal.integer a)

integers_same : (a b : ℤ) → int_eq a b ≡ same_integer a b
integers_same a b =
    together (int_eq a b) (same_integer a b)
    (λ e. subst (λ z. same_integer a z ≡ true) ((signed_Decides a b).0 e) (integer_self a))
    (λ e. (signed_Decides a b).1 (same_integer-is a b e))

texts_same : (a b : List ℕ) → bytes_eq a b ≡ same_numbers a b
texts_same [] [] = refl
texts_same [] (y ∷ b) = refl
texts_same (x ∷ a) [] = refl
texts_same (x ∷ a) (y ∷ b) = ap (λ t. nat_eq x y && t) (texts_same a b)

pub key_same : (a b : Key) → (eq-value).it a b ≡ same_literal (key_view a) (key_view b)
key_same (Truth a) (Truth b) = booleans_same a b
key_same (Int a) (Int b) = integers_same a b
key_same (Text a) (Text b) = texts_same a b
key_same (Tag a i) (Tag b j) = refl
key_same a b = refl

pub same_turned : (k l : Literal) → same_literal k l ≡ same_literal l k
same_turned k l = together (same_literal k l) (same_literal l k) (turned k l) (turned l k)
  where
    turned : (k l : Literal) → same_literal k l ≡ true → same_literal l k ≡ true
    turned k l e = subst (λ (m : Literal). same_literal m k ≡ true) (same_literal-is k l e) (same_literal_self k)

module _ (eq : Key → Key → Bool) (same : (a b : Key) → eq a b ≡ same_literal (key_view a) (key_view b)) where
  any_key : (k : Key) (ks : List Key) → list_any (eq k) ks ≡ any_pass (same_literal (key_view k)) (map key_view ks)
  any_key k [] = refl
  any_key k (x ∷ ks) = ap₂ (λ a b. a || b) (same k x) (any_key k ks)

  pub with_key : (ks : List Key) (k : Key) → map key_view (if list_any (eq k) ks then ks else ks ++ k ∷ []) ≡ with_literal (map key_view ks) (key_view k)
  with_key ks k = by (list_any (eq k) ks) (any_pass (same_literal (key_view k)) (map key_view ks)) (any_key k ks)
    where
      by : (a b : Bool) → a ≡ b → map key_view (if a then ks else ks ++ k ∷ []) ≡ cond b (map key_view ks) (map key_view ks ++ key_view k ∷ [])
      by true true e = refl
      by true false e = absurd cc
      by false true e = absurd cc
      by false false e = map-append key_view ks (k ∷ [])

  place_is : (k : Key) (ks : List Key) → place_of (map key_view ks) (key_view k) ≡ position_or_len (eq k) ks
  place_is k ks = is_position_or_len (λ ks. place_of (map key_view ks) (key_view k)) (eq k) refl first ks
    where
      first : (x : Key) (xs : List Key) → cond (same_literal (key_view x) (key_view k)) 0 (suc (place_of (map key_view xs) (key_view k))) ≡ cond (eq k x) 0 (1 + place_of (map key_view xs) (key_view k))
      first x xs = ap₂ (λ b n. cond b 0 n) (same_turned (key_view x) (key_view k) ∙ sym (same k x)) (omega arith)

  pub place_found : (ks : List Key) (k : Key) (i : ℕ) → Some i ≡ position (eq k) ks → i ≡ place_of (map key_view ks) (key_view k)
  place_found ks k i e = by (nat_lt (position_or_len (eq k) ks) (length ks)) e ∙ sym (place_is k ks)
    where
      by : (b : Bool) → Some i ≡ cond b (Some (position_or_len (eq k) ks)) None → i ≡ position_or_len (eq k) ks
      by true e = cc
      by false e = absurd cc

  pub place_missing : (ks : List Key) (k : Key) → None ≡ position (eq k) ks → length ks ≡ place_of (map key_view ks) (key_view k)
  place_missing ks k e = by (nat_lt (position_or_len (eq k) ks) (length ks)) refl e ∙ sym (place_is k ks)
    where
      by : (b : Bool) → nat_lt (position_or_len (eq k) ks) (length ks) ≡ b → None ≡ cond b (Some (position_or_len (eq k) ks)) None → length ks ≡ position_or_len (eq k) ks
      by true f e = absurd cc
      by false f e = let h = ltb-false (position_or_len (eq k) ks) (length ks) f in let g = prefix_len-le-length (λ x. not (eq k x)) ks in omega (arith, h, g)

-- one key more
pub next_key : (old new : List Literal) (ks : List Key) (i : ℕ) (k : Key) → Some k ≡ slice_get ks i → new ≡ old ++ key_view k ∷ [] → old ++ map key_view (drop i ks) ≡ map key_view ks → new ++ map key_view (drop (i + 1) ks) ≡ map key_view ks
next_key old new ks i k is e h = ap (λ xs. xs ++ map key_view (drop (i + 1) ks)) e ∙ (append_assoc old (key_view k ∷ []) (map key_view (drop (i + 1) ks)) ∙ (ap (λ xs. old ++ xs) (sym (first_left ks i is)) ∙ h))
  where
    first_left : (ks : List Key) (i : ℕ) → Some k ≡ slice_get ks i → map key_view (drop i ks) ≡ key_view k ∷ map key_view (drop (i + 1) ks)
    first_left [] i is = absurd cc
    first_left (x ∷ ks) zero is = let same : k ≡ x = cc in ap (λ y. key_view y ∷ map key_view ks) (sym same)
    first_left (x ∷ ks) (suc i) is = let e : suc i + 1 ≡ suc (i + 1) = omega arith in rw e (first_left ks i is)
