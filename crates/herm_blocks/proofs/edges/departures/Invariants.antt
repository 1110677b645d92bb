use Rattle.std.proofs.Common.{◌≡◌, ◌++◌, map, drop}
use Rattle.herm_flow.specs.View.{edge_view}
use Rattle.herm_fronts.specs.Blocks.{marked_view}
use Rattle.herm_blocks.specs.Views.{slots_view}
use Rattle.herm_blocks.specs.Seen.{drops_view}
use Rattle.herm_blocks.specs.Scopes.{departures_by}
use Rattle.herm_blocks.proofs.edges.departures.Given as goal

abbrev pub invariant-edges : goal.invariant-edges
invariant-edges l = map marked_view l.found.items ++ departures_by l.scope.numbers.now l.scope.lengths.now (slots_view l.slots) (map edge_view (drop l.edge-index l.edges)) (drops_view l.left) ≡ departures_by l.scope.numbers.now l.scope.lengths.now (slots_view l.slots) (map edge_view l.edges) (drops_view l.drops)
