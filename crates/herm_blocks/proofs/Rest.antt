-- What is left of a list in a loop.
use Rattle.std.proofs.Common.{◌≡◌, ℕ, suc, ◌+◌, ◌<◌, List, [], ◌∷◌, ◌++◌, map, length, drop, get_or, Bool, true, false, ◌||◌, cond, refl, sym, ap, ap₂, ◌∙◌, append_assoc, arith}
use Rattle.std.specs.Prelude.{filter}
use Rattle.std.proofs.Math.Seq.{drop-cons}
use Rattle.herm_model.specs.Lists.{any_pass}

pub next-rest : {X : Type 0} (xs : List X) (i : ℕ) (x : X) → i < length xs → x ≡ get_or xs i x → drop i xs ≡ x ∷ drop (i + 1) xs
next-rest xs i x h e = drop-cons xs i x h ∙ ap₂ (λ y k. y ∷ drop k xs) (sym e) (let f : suc i ≡ i + 1 = omega arith in f)

pub or-nested : (a b c : Bool) → ((a || b) || c) ≡ (a || (b || c))
or-nested true b c = refl
or-nested false b c = refl

-- one more element that passes, or does not
pub filter-one : {X : Type 0} (p : X → Bool) (x : X) (rest : List X) → filter p (x ∷ []) ++ filter p rest ≡ filter p (x ∷ rest)
filter-one p x rest = by (p x)
  where
    by : (b : Bool) → cond b (x ∷ []) [] ++ filter p rest ≡ cond b (x ∷ filter p rest) (filter p rest)
    by true = refl
    by false = refl

pub filtered-next : {X : Type 0} (p : X → Bool) (old mid whole : List X) (x : X) (rest : List X) → mid ≡ old ++ filter p (x ∷ []) → old ++ filter p (x ∷ rest) ≡ whole → mid ++ filter p rest ≡ whole
filtered-next p old mid whole x rest e f = ap (λ xs. xs ++ filter p rest) e ∙ (append_assoc old (filter p (x ∷ [])) (filter p rest) ∙ (ap (old ++◌) (filter-one p x rest) ∙ f))

-- one more loop, by its element
pub test-next : {X Y : Type 0} (test : Y → Bool) (view : X → Y) (old new whole : Bool) (xs : List X) (i : ℕ) (d : X) → i < length xs → new ≡ (old || test (view (get_or xs i d))) → (old || any_pass test (map view (drop i xs))) ≡ whole → (new || any_pass test (map view (drop (i + 1) xs))) ≡ whole
test-next test view old new whole xs i d h e f =
    ap (λ b. b || any_pass test (map view (drop (i + 1) xs))) e
    ∙ (or-nested old (test (view (get_or xs i d))) (any_pass test (map view (drop (i + 1) xs)))
    ∙ (ap (λ ys. old || any_pass test (map view ys)) (sym (drop-cons xs i d h ∙ ap (λ k. get_or xs i d ∷ drop k xs) (let g : suc i ≡ i + 1 = omega arith in g))) ∙ f))
