-- Sums that are cut at every step, from the left and from the right.
use Rattle.std.proofs.Common.{◌≡◌, ◌≤◌, ◌^◌, ℕ, ◌+◌, List, [], ◌∷◌, arith}
use Rattle.herm_system.specs.Summary.{cut}
use Rattle.herm_waking.specs.AddedCounts.{added}

pub cut_step : (s a r : ℕ) → cut (cut (s + a) + r) ≡ cut (s + cut (a + r))
cut_step s a r = omega arith

most : {X : Type 0} (f : X → ℕ) (xs : List X) → added f xs ≤ 2 ^ 63
most f [] = omega arith
most f (x ∷ xs) = omega arith

pub cut_start : {X : Type 0} (f : X → ℕ) (xs : List X) → cut (0 + added f xs) ≡ added f xs
cut_start f xs = omega (arith, most f xs)
