-- Each cell of a value waits or is finalised at once.
use Rattle.std.proofs.Common.{◌≡◌, ℕ, suc, ◌+◌, List, [], ◌∷◌, ◌++◌, length, Bool, true, false, cond, refl, sym, ap, ap₂, ◌∙◌, arith}
use Rattle.std.proofs.Math.ListN.{length-append}
use Rattle.herm_model.specs.Values.{Cell, Parts, cell, no_parts, gap, part}
use Rattle.herm_model.specs.CellNames.{count, count_in}
use Rattle.herm_model.specs.Finalising.{waits, finalised, finalised_in, pending, pending_in}

module _ {N : Type 0} where
  mutual
    pub counted : (c : Cell N) → length (finalised c) + length (pending c) ≡ count c
    counted (cell n k ps) =
        ap₂ ◌+◌ (length-append (cond (waits k) [] (n ∷ [])) (finalised_in ps)) (length-append (cond (waits k) (cell n k no_parts ∷ []) []) (pending_in ps))
        ∙ sum (waits k) (length (finalised_in ps)) (length (pending_in ps)) (count_in ps) (counted-in ps)
      where
        sum : (b : Bool) (f p all : ℕ) → f + p ≡ all → (length (cond b [] (n ∷ [])) + f) + (length (cond b (cell n k no_parts ∷ []) []) + p) ≡ suc all
        sum true f p all h = omega (arith, h)
        sum false f p all h = omega (arith, h)

    counted-in : (ps : Parts N) → length (finalised_in ps) + length (pending_in ps) ≡ count_in ps
    counted-in no_parts = refl
    counted-in (gap ps) = counted-in ps
    counted-in (part c ps) =
        ap₂ ◌+◌ (length-append (finalised c) (finalised_in ps)) (length-append (pending c) (pending_in ps))
        ∙ sums (length (finalised c)) (length (finalised_in ps)) (length (pending c)) (length (pending_in ps)) (count c) (count_in ps) (counted c) (counted-in ps)
      where
        sums : (a b c d x y : ℕ) → a + c ≡ x → b + d ≡ y → (a + b) + (c + d) ≡ x + y
        sums a b c d x y h i = omega (arith, h, i)

pub ruleset apart = (counted)
