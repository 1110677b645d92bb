use Rattle.std.proofs.Common.{map}
use Rattle.herm_model.specs.Labels.{label_at}
use Rattle.herm_types.specs.View.{path_view}
use Rattle.herm_typestate.specs.Facts.{has_fact}
use Rattle.herm_flow.specs.View.{target_view, edge_view}
use Rattle.herm_check.specs.View.{labels_view}
use Rattle.herm_coerce.specs.Coerced.{behind_edge}
use Rattle.herm_coerce.proofs.Excess.{here-same}
use Rattle.herm_coerce.proofs.coercions.dropped_behind.Goals as goal

pub returns : goal.returns
returns c =
    here-same (has_fact c.in_ok-after.after) (behind_edge (has_fact c.args.state.now) (edge_view c.args.edge.now)) (label_at (labels_view c.args.labels.now) (target_view c.args.edge.now.to)) (map path_view c.in_ok-paths.paths.items)
    c.in_ok-after.ensures c.in_ok-paths.ensures
