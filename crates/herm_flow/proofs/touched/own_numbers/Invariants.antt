use Rattle.std.proofs.Common.{◌≡◌, ◌<◌, ◌∷◌, [], ℕ, length}
use Rattle.herm_flow.specs.Touched.{numbers_at}
use Rattle.herm_flow.proofs.touched.own_numbers.Given as goal

-- Each place so far has its number.
abbrev pub invariant-each : goal.invariant-each
invariant-each l = record {
  many : length l.found.items ≡ l.i;
  own : (k : ℕ) → k < l.i → numbers_at l.found.items k ≡ k ∷ [];
}
