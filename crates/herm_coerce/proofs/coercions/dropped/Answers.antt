use Rattle.std.proofs.Common.{map, sym, ap, subst}
use Rattle.herm_model.specs.Labels.{label_at}
use Rattle.herm_model.specs.laws.ExcessLaws.{IsExcess}
use Rattle.herm_types.specs.View.{path_view}
use Rattle.herm_typestate.specs.Facts.{has_fact}
use Rattle.herm_flow.specs.View.{target_view, edge_view}
use Rattle.herm_check.specs.View.{labels_view}
use Rattle.herm_coerce.specs.Coerced.{behind_edge}
use Rattle.herm_coerce.proofs.Carried.{none-beyond}
use Rattle.herm_coerce.proofs.coercions.dropped.Goals as goal

pub returns-then-is_carried : goal.returns-then-is_carried
returns-then-is_carried c =
    let here = behind_edge (has_fact c.args.state.now) (edge_view c.args.edge.now) in
    let low = label_at (labels_view c.args.labels.now) (target_view c.args.edge.now.to) in
    subst (IsExcess here low) (sym (ap (map path_view) c.new.ensures.items)) (none-beyond here low (c.is_carried.ensures c.if-is_carried.true))
