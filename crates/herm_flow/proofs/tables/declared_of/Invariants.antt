use Rattle.std.proofs.Common.{◌≡◌, ◌≤◌, ℕ, length, map, drop, cond, is_some, None}
use Rattle.herm_types.specs.View.{raise_decl_view}
use Rattle.herm_flow.specs.NumberTables.{at_number, kept_at, kept_if_raised}
use Rattle.herm_flow.proofs.tables.declared_of.Given as goal

-- The exceptions behind what is left are in the table.
abbrev pub invariant-declared : goal.invariant-declared
invariant-declared l = record { within : l.left ≤ length l.raises; kept : (e : ℕ) → kept_at (map raise_decl_view l.raises) (at_number l.declared.items e) ≡ cond (is_some (at_number l.points e)) (kept_if_raised (map raise_decl_view (drop l.left l.raises)) e) None }

abbrev pub decreases-declared : goal.decreases-declared
decreases-declared l = l.left
