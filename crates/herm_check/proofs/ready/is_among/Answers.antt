use Rattle.std.proofs.Common.{sym, ◌∙◌}
use Rattle.herm_model.specs.Outcomes.{same_outcome}
use Rattle.herm_typed.specs.View.{outcome_view}
use Rattle.herm_flow.specs.declared.onward.OnwardEdge.{OnwardEdge as Edge}
use Rattle.herm_check.proofs.Begun.{some-pass}
use Rattle.herm_check.proofs.ready.is_among.Goals as goal

pub returns-then-same_outcome : goal.returns-then-same_outcome
returns-then-same_outcome c =
    sym (some-pass (same_outcome (outcome_view c.args.outcome)) (λ (e : Edge). outcome_view e.outcome) c.args.edges.now c.loop-edge.edge-index c.edge-item.result c.loop-edge-test.true c.edge-item.is (sym c.same_outcome.ensures ∙ c.if-same_outcome.true))
