-- Parameters that are kept.
use Rattle.std.proofs.Common.{◌≡◌, ◌<◌, ℕ, suc, ◌+◌, Bool, true, false, cond, List, [], ◌∷◌, ◌++◌, length, map, drop, get_or, refl, sym, ◌∙◌, ap, append_assoc, add-one, drop-cons, arith}
use Rattle.std.specs.Prelude.{◌==◌}
use Rattle.std.proofs.lemmas.Bool.{eqb-true}
use Rattle.std.specs.Str.{bytes_eq}
use Rattle.std.specs.List.{list_any}
use Rattle.herm_meaning.specs.Meaning.{kept_places}

pub any-map : {X : Type 0} (test : List ℕ → Bool) (f : X → List ℕ) (xs : List X) → list_any (λ x. test (f x)) xs ≡ list_any test (map f xs)
any-map test f [] = refl
any-map test f (x ∷ xs) = rw (any-map test f xs) refl

pub kept-none : (i : ℕ) (names : List (List ℕ)) → kept_places i names [] ≡ []
kept-none i [] = refl
kept-none i (n ∷ ns) = kept-none (suc i) ns

kept-cons : (i : ℕ) (n : List ℕ) (ns keeps : List (List ℕ)) (kept : List ℕ) → (kept ++ cond (list_any (bytes_eq n) keeps) (i ∷ []) []) ++ kept_places (suc i) ns keeps ≡ kept ++ kept_places i (n ∷ ns) keeps
kept-cons i n ns keeps kept = append_assoc kept _ _ ∙ ap (kept ++◌) (by (list_any (bytes_eq n) keeps))
  where
    by : (b : Bool) → cond b (i ∷ []) [] ++ kept_places (suc i) ns keeps ≡ cond b (i ∷ kept_places (suc i) ns keeps) (kept_places (suc i) ns keeps)
    by true = refl
    by false = refl

-- one parameter more
pub kept-more : {X Y : Type 0} (f : X → Y) (g : Y → List ℕ) (params : List X) (keeps : List (List ℕ)) (i : ℕ) (d : X) (kept whole : List ℕ) → i < length params → kept ++ kept_places i (map g (map f (drop i params))) keeps ≡ whole → (kept ++ cond (list_any (bytes_eq (g (f (get_or params i d)))) keeps) (i ∷ []) []) ++ kept_places (i + 1) (map g (map f (drop (i + 1) params))) keeps ≡ whole
kept-more f g params keeps i d kept whole l before =
    rw add-one (kept-cons i (g (f (get_or params i d))) (map g (map f (drop (suc i) params))) keeps kept ∙ (ap (λ xs. kept ++ kept_places i (map g (map f xs)) keeps) (sym (drop-cons params i d l)) ∙ before))

pub empty-is : {X Y : Type 0} (f : X → Y) (xs : List X) → true ≡ (length xs == 0) → map f xs ≡ []
empty-is f [] e = refl
empty-is f (x ∷ xs) e = absurd (omega (arith, eqb-true (length (x ∷ xs)) 0 (sym e)))
