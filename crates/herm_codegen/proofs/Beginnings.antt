-- Whether one row of numbers begins another.
use Rattle.std.proofs.Common.{◌≡◌, ℕ, suc, zero, ◌+◌, ◌<◌, ◌≤◌, List, [], ◌∷◌, length, map, take, get_or, Bool, true, false, nat_eq, ◌&&◌, ◌||◌, refl, sym, ◌∙◌, ap, arith}
use lib.Pointwise.{pointwise}
use Rattle.herm_model.specs.Paths.{is_at_or_below}

none-below : (a : Bool) → (a && false) ≡ false
none-below true = refl
none-below false = refl

pub too-short : (p q : List ℕ) → length q < length p → is_at_or_below p q ≡ false
too-short [] q h = absurd (omega arith)
too-short (i ∷ p) [] h = refl
too-short (i ∷ p) (j ∷ q) h = ap (λ b. nat_eq i j && b) (too-short p q (omega arith)) ∙ none-below (nat_eq i j)

pub begins-by : (p q : List ℕ) → length p ≤ length q → pointwise nat_eq p (take (length p) q) ≡ is_at_or_below p q
begins-by [] q h = refl
begins-by (i ∷ p) [] h = absurd (omega arith)
begins-by (i ∷ p) (j ∷ q) h = ap (λ b. nat_eq i j && b) (begins-by p q (omega arith))
