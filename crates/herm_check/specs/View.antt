-- What labels, edges and hops of the code stand for.
use Rattle.std.specs.Prelude.{false, slice_get}
use Rattle.herm_model.specs.ControlPaths as paths
use Rattle.herm_model.specs.Labels as model
use Rattle.herm_model.specs.Lists.{map_or}
use Rattle.herm_typed.specs.View.{outcome_view}
use Rattle.herm_flow.specs.declared.onward.OnwardEdge.{OnwardEdge}
use Rattle.herm_flow.specs.declared.onward.OnwardPoint.{OnwardPoint}
use Rattle.herm_flow.specs.OnwardView.{onward_edge_view}
use Rattle.herm_typestate.specs.declared.labels.Labels.{Labels}
use Rattle.herm_typestate.specs.Facts.{has_fact}
use Rattle.herm_check.specs.declared.search.Hop.{Hop}

-- the test that labels are, by points
abbrev pub labels_view : Labels → model.Labels
labels_view labels i f = map_or false (λ s. has_fact s f) (slice_get labels.at.items i)

-- an edge of a point
abbrev pub edge_in : OnwardPoint → OnwardEdge → paths.Edge
edge_in p e = onward_edge_view p.made.items p.gone.items e

abbrev pub hop_view : Hop → paths.Hop
hop_view h = record { number = h.stmt.0; outcome = outcome_view h.outcome }
