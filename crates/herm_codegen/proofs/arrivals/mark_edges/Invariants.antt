use Rattle.std.proofs.Common.{◌≡◌, map, drop}
use Rattle.herm_fronts.specs.Blocks.{departure_view}
use Rattle.herm_codegen.specs.Arrivals.{marks_view, with_edges}
use Rattle.herm_codegen.proofs.arrivals.mark_edges.Given as goal

abbrev pub invariant-edges : goal.invariant-edges
invariant-edges l = with_edges (map departure_view (drop l.edge-index l.edges)) (marks_view l.arrivals) ≡ with_edges (map departure_view l.edges) (marks_view l.fn.arrivals)
