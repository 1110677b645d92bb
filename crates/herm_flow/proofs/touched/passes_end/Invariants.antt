use Rattle.std.proofs.Common.{◌≡◌, ◌≤◌, ◌-◌, ℕ, length, drop, false, true, is_some}
use Rattle.herm_flow.specs.NumberTables.{at_number}
use Rattle.herm_flow.specs.Touched.{is_before_last}
use Rattle.herm_flow.proofs.touched.passes_end.Given as goal

-- What is left decides.
abbrev pub invariant-each : goal.invariant-each
invariant-each l = record {
  end : l.i-end ≡ length l.numbers;
  left : ((n : ℕ) → is_before_last (drop (l.i - 1) l.numbers) n ≡ true → is_some (at_number l.ends n) ≡ false) → (n : ℕ) → is_before_last l.numbers n ≡ true → is_some (at_number l.ends n) ≡ false;
}
