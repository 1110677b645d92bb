use Rattle.std.proofs.Common.{◌≡◌, ◌≤◌, map, length}
use Rattle.herm_model.specs.Outcomes.{Outcome}
use Rattle.herm_translated.specs.Layout.{edge_at}
use Rattle.herm_fronts.specs.Blocks.{departure_view, exits_view}
use Rattle.herm_fronts.specs.Exits.{number_of}
use Rattle.herm_fronts.proofs.exits.from_number.Given as goal

-- Outcomes from the number on lead among the edges that are left where they lead among all.
abbrev pub invariant-edges : goal.invariant-edges
invariant-edges l = (o : Outcome) → l.number ≤ number_of o → edge_at l.first (map departure_view l.edges) o ≡ exits_view l.exits o

abbrev pub decreases-edges : goal.decreases-edges
decreases-edges l = length l.edges
