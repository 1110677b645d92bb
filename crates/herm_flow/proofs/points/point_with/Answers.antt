use Rattle.std.proofs.Common.{map, ap, ◌∙◌}
use Rattle.herm_typed.specs.View.{outcome_view}
use Rattle.herm_flow.specs.View.{target_view, catch_view}
use Rattle.herm_flow.specs.Edges.{exits_from}
use Rattle.herm_flow.specs.Listed.{lead_view}
use Rattle.herm_flow.proofs.LedEdges.{led_onward}
use Rattle.herm_flow.proofs.points.point_with.Goals as goal

pub returns-clause-edges : goal.returns-clause-edges
returns-clause-edges c = led_onward c.args.frame.now c.args.s.now.form c.in_ok-lists.lists c.as_slice.result.now (exits_from (map outcome_view c.args.outcomes.now) (map target_view c.args.leads.now) (map catch_view c.args.catches.now)) c.in_ok-lists.ensures.edges c.in_ok-lists.ensures.led (ap (map lead_view) c.as_slice.ensures.value ∙ c.in_ok-found.ensures.found)
