use Rattle.std.proofs.Common.{map, ap, ◌∙◌}
use Rattle.herm_model.specs.Lists.{any_pass}
use Rattle.herm_model.specs.Paths.{same_fact}
use Rattle.herm_types.specs.View.{fact_view}
use Rattle.herm_typestate.specs.Facts.{has_fact}
use Rattle.herm_flow.specs.View.{edge_view}
use Rattle.herm_coerce.proofs.Carried.{all-behind}
use Rattle.herm_coerce.proofs.coercions.has_all_behind.Goals as goal

pub returns : goal.returns
returns c = λ t.
    all-behind (edge_view c.args.edge.now) (has_fact c.args.low.now) (has_fact c.args.state.now)
    (λ f h. c.are_made_in.ensures c.if-not-are_made_in.false f (ap (λ xs. any_pass (same_fact f) (map fact_view xs)) c.makes.ensures.makes ∙ h)) (c.is_below.ensures.below t)
