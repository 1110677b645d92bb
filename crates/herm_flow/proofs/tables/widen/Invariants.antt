use Rattle.std.proofs.Common.{◌≡◌, ◌+◌, ◌-◌, ℕ, length}
use Rattle.herm_flow.specs.NumberTables.{at_number}
use Rattle.herm_flow.proofs.tables.widen.Given as goal

-- The numbers added have no entry.
abbrev pub invariant-more : goal.invariant-more
invariant-more l = (e : ℕ) → at_number l.table.items e ≡ at_number l.fn.table.items e

abbrev pub decreases-more : goal.decreases-more
decreases-more l = l.place + 1 - length l.table.items
