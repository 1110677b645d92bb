use Rattle.std.proofs.Common.{◌≡◌, ℕ, length, Some, slice_get}
use Rattle.herm_check.proofs.alike.own_numbers.Given as goal

abbrev pub invariant-loop-n : goal.invariant-loop-n
invariant-loop-n l = (length l.own.items ≡ l.n) × ((n m : ℕ) → slice_get l.own.items n ≡ Some m → n ≡ m)
