use Rattle.std.proofs.Common.{◌≡◌, map, drop}
use Rattle.herm_types.specs.View.{fact_view}
use Rattle.herm_flow.specs.View.{edge_view}
use Rattle.herm_blocks.specs.Scopes.{handed_by}
use Rattle.herm_blocks.proofs.handed.handed_on.Given as goal

abbrev pub invariant-edges : goal.invariant-edges
invariant-edges l = handed_by (map edge_view (drop l.edge-index l.edges)) (map fact_view l.facts) ≡ handed_by (map edge_view l.edges) (map fact_view l.facts)
