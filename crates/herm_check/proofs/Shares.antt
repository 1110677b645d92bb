-- The facts that share a search.
use Rattle.std.proofs.Common.{◌≡◌, ◌⊎◌, inl, inr, ℕ, zero, suc, ◌+◌, ◌*◌, ◌-◌, ◌<◌, ◌≤◌, List, [], ◌∷◌, length, map, take, drop, min, Some, slice_get, refl, sym, ◌∙◌, ap, subst, arith}
use Rattle.std.proofs.lemmas.List.{take_all, take-map, drop-map}
use Rattle.std.proofs.lemmas.Option.{slice_get_within}
use Rattle.herm_model.specs.Paths.{Fact}
use Rattle.herm_types.specs.declared.fact.Fact.{Fact as FactHere}
use Rattle.herm_types.specs.View.{fact_view}
use Rattle.herm_check.specs.Effects.{share}
use Rattle.herm_check.proofs.Searched.{le_or}
use Rattle.herm_check.proofs.Noted.{part-at}

taken-within : {X : Type 0} (n : ℕ) (xs : List X) (j : ℕ) (x : X) → slice_get (take n xs) j ≡ Some x → j < n
taken-within n xs j x at = by (le_or n j)
  where
    short : {Y : Type 0} (m : ℕ) (ys : List Y) → length (take m ys) ≤ m
    short zero ys = omega arith
    short (suc m) [] = omega arith
    short (suc m) (y ∷ ys) = let h = short m ys in omega (arith, h)

    by : (n ≤ j) ⊎ (j < n) → j < n
    by (inr h) = h
    by (inl h) = absurd (let within = slice_get_within (take n xs) j x at in let few = short n xs in omega (arith, within, few, h))

pub share-at : (facts : List Fact) (s j : ℕ) (f : Fact) → slice_get (share facts s) j ≡ Some f → (j < 64) × (slice_get facts (64 * s + j) ≡ Some f)
share-at facts s j f at = let less = taken-within 64 (drop (64 * s) facts) j f at in (less, sym (part-at facts (64 * s) 64 j less) ∙ at)

pub share-has : (facts : List Fact) (s j : ℕ) (f : Fact) → j < 64 → slice_get facts (64 * s + j) ≡ Some f → slice_get (share facts s) j ≡ Some f
share-has facts s j f less at = part-at facts (64 * s) 64 j less ∙ at

-- a part that is as long as 64 or as the rest
pub part-shared : (lost : List FactHere) (first count : ℕ) → count ≡ min 64 (length lost - first) → map fact_view (take count (drop first lost)) ≡ take 64 (drop first (map fact_view lost))
part-shared lost first count is =
    sym (take-map fact_view count (drop first lost)) ∙ (by (le_or 64 (length lost - first)) ∙ ap (take 64) (sym (drop-map fact_view first lost)))
  where
    rest : List Fact
    rest = map fact_view (drop first lost)

    many : length rest ≤ length lost - first
    many = subst (λ (xs : List Fact). length xs ≤ length lost - first) (drop-map fact_view first lost) (dropped first (map fact_view lost) (length lost) (mapped lost))
      where
        mapped : (xs : List FactHere) → length (map fact_view xs) ≤ length xs
        mapped [] = omega arith
        mapped (x ∷ xs) = let h = mapped xs in omega (arith, h)

        dropped : (n : ℕ) (xs : List Fact) (m : ℕ) → length xs ≤ m → length (drop n xs) ≤ m - n
        dropped zero xs m h = omega (arith, h)
        dropped (suc n) [] m h = omega arith
        dropped (suc n) (x ∷ xs) m h = let g = dropped n xs (m - 1) (omega (arith, h)) in omega (arith, g, h)

    by : (64 ≤ length lost - first) ⊎ (length lost - first < 64) → take count rest ≡ take 64 rest
    by (inl h) = ap (λ n. take n rest) (let same : count ≡ 64 = omega (arith, is, h) in same)
    by (inr h) = take_all count rest (omega (arith, is, h, many)) ∙ sym (take_all 64 rest (omega (arith, h, many)))
