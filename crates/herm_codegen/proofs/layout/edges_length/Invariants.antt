use Rattle.std.proofs.Common.{◌≡◌, ◌+◌, map, drop}
use Rattle.herm_model.specs.Lists.{total}
use Rattle.herm_translated.specs.Departures.{edge_length}
use Rattle.herm_fronts.specs.Blocks.{departure_view}
use Rattle.herm_codegen.proofs.layout.edges_length.Given as goal

abbrev pub invariant-edges : goal.invariant-edges
invariant-edges l = l.length + total edge_length (map departure_view (drop l.edge-index l.edges)) ≡ total edge_length (map departure_view l.edges)
