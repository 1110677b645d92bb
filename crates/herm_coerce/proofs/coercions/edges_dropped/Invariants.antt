use Rattle.std.proofs.Common.{map, take}
use Rattle.herm_types.specs.View.{path_view}
use Rattle.herm_flow.specs.View.{point_view}
use Rattle.herm_check.specs.View.{labels_view}
use Rattle.herm_coerce.specs.Coerced.{ArePointsDropped}
use Rattle.herm_coerce.proofs.coercions.edges_dropped.Given as goal

abbrev pub invariant-loop-at : goal.invariant-loop-at
invariant-loop-at l = ArePointsDropped (labels_view l.labels) 0 (map point_view (take l.at l.flow.points.items)) (map (λ p. map (λ e. map path_view e.items) p.items) l.found.items)
