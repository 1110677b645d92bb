use Rattle.std.proofs.Common.{◌≡◌, ℕ, Some, Vec, Global, [], length, slice_get}
use Rattle.herm_check.proofs.search.none_visited.Given as goal

abbrev pub invariant-loop : goal.invariant-loop
invariant-loop l = record {
  many : length l.places.items ≡ l.counter;
  none : (i : ℕ) (row : Vec ℕ Global) → slice_get l.places.items i ≡ Some row → row.items ≡ [];
}
