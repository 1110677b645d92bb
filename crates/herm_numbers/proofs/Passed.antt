-- A search for a name, one element on.
use Rattle.std.proofs.Common.{◌≡◌, ℕ, suc, ◌+◌, ◌<◌, ◌≤◌, List, [], ◌∷◌, map, length, drop, get_or, Bool, true, false, cond, ltb, Some, None, add-one, refl, sym, ap, ◌∙◌, arith, true≢false}
use Rattle.std.specs.List.{position, position_or_len}
use Rattle.std.proofs.lemmas.List.Recursion.{is_position_or_len}
use Rattle.std.proofs.lemmas.Bool.{lt-ltb}
use Rattle.std.proofs.Math.Seq.{drop-cons}
use Rattle.std.specs.Str.{bytes_eq}
use Rattle.herm_syntax.specs.Trees.{Letters}
use Rattle.herm_naming.specs.Numbers.{place_of}

shown : {X : Type 0} (f : X → Letters) (xs : List X) (i : ℕ) (r : X) → i < length xs → r ≡ get_or xs i r → map f (drop i xs) ≡ f r ∷ map f (drop (i + 1) xs)
shown f xs i r h e = by (rw (add-one, drop-cons xs i r) refl)
  where
    by : map f (drop i xs) ≡ f (get_or xs i r) ∷ map f (drop (i + 1) xs) → map f (drop i xs) ≡ f r ∷ map f (drop (i + 1) xs)
    by k = k ∙ ap (λ x. f x ∷ map f (drop (i + 1) xs)) (sym e)

pub found : {X : Type 0} (f : X → Letters) (name : Letters) (xs : List X) (i : ℕ) (r : X) → i < length xs → r ≡ get_or xs i r → bytes_eq name (f r) ≡ true
    → place_of name (map f xs) ≡ i + place_of name (map f (drop i xs)) → i ≡ place_of name (map f xs)
found f name xs i r h e t k =
    let a : place_of name (map f (drop i xs)) ≡ 0 = ap (place_of name) (shown f xs i r h e) ∙ ap (λ b. cond b 0 (suc (place_of name (map f (drop (i + 1) xs))))) t in
    omega (arith, a, k)

pub passed : {X : Type 0} (f : X → Letters) (name : Letters) (xs : List X) (i : ℕ) (r : X) → i < length xs → r ≡ get_or xs i r → bytes_eq name (f r) ≡ false
    → place_of name (map f xs) ≡ i + place_of name (map f (drop i xs)) → place_of name (map f xs) ≡ (i + 1) + place_of name (map f (drop (i + 1) xs))
passed f name xs i r h e t k =
    let a : place_of name (map f (drop i xs)) ≡ suc (place_of name (map f (drop (i + 1) xs))) = ap (place_of name) (shown f xs i r h e) ∙ ap (λ b. cond b 0 (suc (place_of name (map f (drop (i + 1) xs))))) t in
    omega (arith, a, k)

pub same-names : (ns : List Letters) → map (λ n. n) ns ≡ ns
same-names [] = refl
same-names (n ∷ ns) = ap (n ∷◌) (same-names ns)

pub found_name : (name : Letters) (ns : List Letters) (i : ℕ) (r : Letters) → i < length ns → r ≡ get_or ns i r → bytes_eq name r ≡ true
    → place_of name ns ≡ i + place_of name (drop i ns) → i ≡ place_of name ns
found_name name ns i r h e t k =
    found (λ n. n) name ns i r h e t (ap (place_of name) (same-names ns) ∙ (k ∙ ap (λ ms. i + place_of name ms) (sym (same-names (drop i ns))))) ∙ ap (place_of name) (same-names ns)

pub passed_name : (name : Letters) (ns : List Letters) (i : ℕ) (r : Letters) → i < length ns → r ≡ get_or ns i r → bytes_eq name r ≡ false
    → place_of name ns ≡ i + place_of name (drop i ns) → place_of name ns ≡ (i + 1) + place_of name (drop (i + 1) ns)
passed_name name ns i r h e t k =
    ap (place_of name) (sym (same-names ns)) ∙ (passed (λ n. n) name ns i r h e t (ap (place_of name) (same-names ns) ∙ (k ∙ ap (λ ms. i + place_of name ms) (sym (same-names (drop i ns)))))
    ∙ ap (λ ms. (i + 1) + place_of name ms) (same-names (drop (i + 1) ns)))

pub place-within : (name : Letters) (ns : List Letters) → place_of name ns ≤ length ns
place-within name [] = omega arith
place-within name (n ∷ ns) = by (bytes_eq name n) (place-within name ns)
  where
    by : (b : Bool) → place_of name ns ≤ length ns → cond b 0 (suc (place_of name ns)) ≤ suc (length ns)
    by true h = omega arith
    by false h = omega arith

pub place-position : (name : Letters) (ns : List Letters) → place_of name ns ≡ position_or_len (bytes_eq name) ns
place-position name ns = is_position_or_len (place_of name) (bytes_eq name) refl (λ n ms. ap (λ k. cond (bytes_eq name n) 0 k) (let e : suc (place_of name ms) ≡ 1 + place_of name ms = omega arith in e)) ns

pub place-some : (name : Letters) (ns : List Letters) (i : ℕ) → Some i ≡ position (bytes_eq name) ns → i ≡ place_of name ns
place-some name ns i e = by (ltb (position_or_len (bytes_eq name) ns) (length ns)) e ∙ sym (place-position name ns)
  where
    by : (b : Bool) → Some i ≡ cond b (Some (position_or_len (bytes_eq name) ns)) None → i ≡ position_or_len (bytes_eq name) ns
    by true k = cc k
    by false k = let f : ⊥ = cc k in absurd f

pub place-none : (name : Letters) (ns : List Letters) → None ≡ position (bytes_eq name) ns → place_of name ns ≡ length ns
place-none name ns e = by (ltb (position_or_len (bytes_eq name) ns) (length ns)) refl e
  where
    by : (b : Bool) → ltb (position_or_len (bytes_eq name) ns) (length ns) ≡ b → None ≡ cond b (Some (position_or_len (bytes_eq name) ns)) None → place_of name ns ≡ length ns
    by true k h = let f : ⊥ = cc h in absurd f
    by false k h =
        let a = place-position name ns in
        let w = place-within name ns in
        let m : position_or_len (bytes_eq name) ns < length ns → ⊥ = λ l. true≢false (sym (lt-ltb _ _ l) ∙ k) in
        omega (arith, a, w, m)
