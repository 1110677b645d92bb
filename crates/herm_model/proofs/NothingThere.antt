-- Where there are no parts, or empty places alone, nothing stands at any path.
use Rattle.std.proofs.Common.{◌≡◌, ℕ, zero, suc, [], ◌∷◌, false, Option, None, is_some, refl, ap, ◌∙◌}
use Rattle.herm_model.specs.Paths.{Path}
use Rattle.herm_model.specs.Values.{Cell, no_parts, gaps, part_at, inside, cell_at, read_at, has_value}

module _ {N : Type 0} where
  pub none-there : (p : Path) → cell_at {N = N} p no_parts ≡ None
  none-there [] = refl
  none-there (i ∷ []) = refl
  none-there (i ∷ j ∷ p) = none-there (j ∷ p)

  pub none-read : (p : Path) → read_at {N = N} p no_parts ≡ None
  none-read [] = refl
  none-read (i ∷ []) = refl
  none-read (i ∷ j ∷ p) = none-read (j ∷ p)

  pub none-in_gaps : (n i : ℕ) → part_at {N = N} i (gaps n) ≡ None
  none-in_gaps zero i = refl
  none-in_gaps (suc n) zero = refl
  none-in_gaps (suc n) (suc i) = none-in_gaps n i

module _ (N : Type 0) where
  pub nothing-there : (p : Path) → has_value {N = N} no_parts p ≡ false
  nothing-there p = ap (λ (o : Option (Cell N)). is_some o) (none-there p)

  pub nothing-in_gaps : (n : ℕ) (p : Path) → has_value {N = N} (gaps n) p ≡ false
  nothing-in_gaps n [] = refl
  nothing-in_gaps n (i ∷ []) = ap (λ (o : Option (Cell N)). is_some o) (none-in_gaps n i)
  nothing-in_gaps n (i ∷ j ∷ p) = ap (λ (o : Option (Cell N)). has_value (inside o) (j ∷ p)) (none-in_gaps n i) ∙ nothing-there (j ∷ p)
