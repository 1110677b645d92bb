-- Numbers in order end with the last one.
use Rattle.std.proofs.Common.{◌≡◌, ℕ, suc, ◌+◌, List, [], ◌∷◌, ◌++◌, map, sym, ap, ◌∙◌, arith}
use Rattle.std.proofs.lemmas.List.{map-append}
use Rattle.herm_model.specs.Lists.{range}
use Rattle.herm_typed.proofs.Numbered.{range-end}

pub ranged : {X : Type 0} (f : ℕ → X) (i : ℕ) → map f (range 0 i) ++ f i ∷ [] ≡ map f (range 0 (i + 1))
ranged f i =
    let a : i + 1 ≡ suc i = omega arith in
    let b : 0 + i ≡ i = omega arith in
    sym (map-append f (range 0 i) (i ∷ [])) ∙ ap (map f) (ap (λ m. range 0 i ++ (m ∷ [])) (sym b) ∙ (sym (range-end 0 i) ∙ ap (range 0) (sym a)))
