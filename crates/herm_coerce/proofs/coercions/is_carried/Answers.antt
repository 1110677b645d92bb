use Rattle.std.proofs.Common.{◌≡◌, true, sym, subst}
use Rattle.herm_model.specs.Labels.{label_at}
use Rattle.herm_flow.specs.View.{target_view}
use Rattle.herm_check.specs.View.{labels_view}
use Rattle.herm_coerce.proofs.coercions.is_carried.Goals as goal

pub returns : goal.returns
returns c = λ t f h. subst (λ x. label_at (labels_view c.args.labels.now) (target_view x) f ≡ true) (sym c.in-Point.is) (c.is_carried_to.ensures t f h)
