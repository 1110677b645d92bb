use Rattle.std.proofs.Common.{◌≡◌, ◌≤◌, ℕ, length, map, drop}
use Rattle.herm_model.specs.Handlers.{caught}
use Rattle.herm_flow.specs.View.{catch_view}
use Rattle.herm_flow.specs.NumberTables.{at_number, point_of}
use Rattle.herm_flow.proofs.tables.points_of.Given as goal

-- The handlers behind what is left are in the table.
abbrev pub invariant-catches : goal.invariant-catches
invariant-catches l = record { within : l.left ≤ length l.catches; points : (e : ℕ) → at_number l.points.items e ≡ point_of (caught (map catch_view (drop l.left l.catches)) e) }

abbrev pub decreases-catches : goal.decreases-catches
decreases-catches l = l.left
