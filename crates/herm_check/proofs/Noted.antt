-- The numbers of facts.
use Rattle.std.proofs.Common.{◌+◌, ◌≡◌, ◌<◌, arith, ℕ, zero, suc, take, drop, List, [], ◌∷◌, map, Some, slice_get, refl, sym, ap, ◌∙◌}
use Rattle.herm_model.specs.Paths.{Fact}
use Rattle.herm_types.specs.declared.fact.Fact.{Fact as FactHere}
use Rattle.herm_types.specs.View.{fact_view}
use Rattle.herm_facts.specs.declared.fact_numbers.FactNumbers.{FactNumbers}
use Rattle.herm_check.specs.Missing.{IsNoted, AreKept}

-- the fact stands at this place
abbrev pub IsNumberOf : List FactHere → Fact → ℕ → Type 0
IsNumberOf facts f n = slice_get (map fact_view facts) n ≡ Some f

pub noted-kept : (old new : FactNumbers) (f : Fact) → AreKept old new → IsNoted old f → IsNoted new f
noted-kept old new f kept h = (h.0, kept f h.0 h.1)

got-taken : {X : Type 0} (n : ℕ) (xs : List X) (j : ℕ) → j < n → slice_get (take n xs) j ≡ slice_get xs j
got-taken zero xs j less = absurd (omega (arith, less))
got-taken (suc n) [] j less = refl
got-taken (suc n) (x ∷ xs) zero less = refl
got-taken (suc n) (x ∷ xs) (suc j) less = got-taken n xs j (omega (arith, less))

got-dropped : {X : Type 0} (n : ℕ) (xs : List X) (j : ℕ) → slice_get (drop n xs) j ≡ slice_get xs (n + j)
got-dropped zero xs j = ap (slice_get xs) (omega arith)
got-dropped (suc n) [] j = refl
got-dropped (suc n) (x ∷ xs) j = let same : suc n + j ≡ suc (n + j) = omega arith in got-dropped n xs j ∙ sym (ap (slice_get (x ∷ xs)) same)

-- an element of the part of a list from one place on
pub part-at : {X : Type 0} (xs : List X) (start count j : ℕ) → j < count → slice_get (take count (drop start xs)) j ≡ slice_get xs (start + j)
part-at xs start count j less = got-taken count (drop start xs) j less ∙ got-dropped start xs j
