use Rattle.std.proofs.Common.{◌≡◌, ◌<◌, ℕ, true, is_some, Some}
use Rattle.herm_flow.specs.NumberTables.{at_number}
use Rattle.herm_flow.specs.Touched.{last_of, numbers_at}
use Rattle.herm_flow.proofs.touched.ends_of.Given as goal

-- The last of each list so far is marked.
abbrev pub invariant-each : goal.invariant-each
invariant-each l = (i n : ℕ) → i < l.numbers-index → last_of (numbers_at l.trails i) ≡ Some n → is_some (at_number l.ends.items n) ≡ true
