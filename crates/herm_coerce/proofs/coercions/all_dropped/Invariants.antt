use Rattle.std.proofs.Common.{map, take}
use Rattle.herm_types.specs.View.{path_view}
use Rattle.herm_typestate.specs.Facts.{has_fact}
use Rattle.herm_flow.specs.View.{edge_view}
use Rattle.herm_check.specs.View.{labels_view}
use Rattle.herm_coerce.specs.Coerced.{AreDropped}
use Rattle.herm_coerce.proofs.coercions.all_dropped.Given as goal

abbrev pub invariant-loop-edge : goal.invariant-loop-edge
invariant-loop-edge l = AreDropped (labels_view l.labels) (has_fact l.state) (map edge_view (take l.edge-index l.edges)) (map (λ e. map path_view e.items) l.found.items)
