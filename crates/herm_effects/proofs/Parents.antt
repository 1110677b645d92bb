-- The path without its last step.
use Rattle.std.proofs.Common.{◌≡◌, ℕ, ◌-◌, List, [], ◌∷◌, length, take, refl, ap, ◌∙◌, sym, arith}
use Rattle.herm_model.specs.Paths.{parent}

step : (v : ℕ) (p : List ℕ) → parent (v ∷ p) ≡ take (length p) (v ∷ p)
step v [] = refl
step v (i ∷ p) = ap (v ∷◌) (step i p)

pub parent_taken : (v : ℕ) (parts : List ℕ) → (length parts ≡ 0 → ⊥) → v ∷ take (length parts - 1) parts ≡ parent (v ∷ parts)
parent_taken v [] n = absurd (n refl)
parent_taken v (i ∷ p) n =
    let less : length (i ∷ p) - 1 ≡ length p = omega arith in
    ap (λ k. v ∷ take k (i ∷ p)) less ∙ ap (v ∷◌) (sym (step i p))
