use Rattle.std.proofs.Common.{map, sym, subst}
use Rattle.herm_model.specs.Labels.{label_at}
use Rattle.herm_types.specs.View.{path_view}
use Rattle.herm_typestate.specs.Facts.{has_fact}
use Rattle.herm_flow.specs.View.{target_view}
use Rattle.herm_check.specs.View.{labels_view}
use Rattle.herm_model.specs.laws.ExcessLaws.{IsExcess}
use Rattle.herm_coerce.proofs.coercions.beyond.Goals as goal

pub returns-in_ok-paths-in-Point : goal.returns-in_ok-paths-in-Point
returns-in_ok-paths-in-Point c =
    subst (λ t. IsExcess (has_fact c.args.state.now) (label_at (labels_view c.args.labels.now) (target_view t)) (map path_view c.in_ok-paths-in-Point.paths.items)) (sym c.in-Point.is) c.in_ok-paths-in-Point.ensures

pub returns-in_ok-paths-in-End : goal.returns-in_ok-paths-in-End
returns-in_ok-paths-in-End c =
    subst (λ t. IsExcess (has_fact c.args.state.now) (label_at (labels_view c.args.labels.now) (target_view t)) (map path_view c.in_ok-paths-in-End.paths.items)) (sym c.in-End.is) c.in_ok-paths-in-End.ensures

pub returns-in_ok-paths-in-EndBy : goal.returns-in_ok-paths-in-EndBy
returns-in_ok-paths-in-EndBy c =
    subst (λ t. IsExcess (has_fact c.args.state.now) (label_at (labels_view c.args.labels.now) (target_view t)) (map path_view c.in_ok-paths-in-EndBy.paths.items)) (sym c.in-EndBy.is) c.in_ok-paths-in-EndBy.ensures
