use Rattle.std.proofs.Common.{◌≡◌, map, length}
use Rattle.herm_typed.specs.View.{outcome_view}
use Rattle.herm_translated.specs.Layout.{edge_at}
use Rattle.herm_fronts.specs.Blocks.{departure_view}
use Rattle.herm_fronts.proofs.departures.exit_at.Given as goal

-- Where the edge is among those that are left is where it is among all.
abbrev pub invariant-edges : goal.invariant-edges
invariant-edges l = edge_at l.at (map departure_view l.edges) (outcome_view l.o) ≡ edge_at l.exits.first (map departure_view l.exits.edges.now) (outcome_view l.o)

abbrev pub decreases-edges : goal.decreases-edges
decreases-edges l = length l.edges
