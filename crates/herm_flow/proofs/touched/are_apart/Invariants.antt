use Rattle.std.proofs.Common.{◌≡◌, ◌<◌, ℕ, true, false, is_some}
use Rattle.herm_flow.specs.NumberTables.{at_number}
use Rattle.herm_flow.specs.Touched.{is_before_last, numbers_at}
use Rattle.herm_flow.proofs.touched.are_apart.Given as goal

-- No list so far passes an end.
abbrev pub invariant-each : goal.invariant-each
invariant-each l = (j n : ℕ) → j < l.numbers-index → is_before_last (numbers_at l.trails j) n ≡ true → is_some (at_number l.ends.items n) ≡ false
