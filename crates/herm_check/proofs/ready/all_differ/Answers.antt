use Rattle.std.proofs.Common.{map, subst}
use Rattle.herm_model.specs.Statements.{Differ}
use Rattle.herm_model.specs.ControlPaths.{Edge, Point}
use Rattle.herm_typed.specs.View.{outcome_view}
use Rattle.herm_flow.specs.declared.onward.OnwardEdge.{OnwardEdge}
use Rattle.herm_flow.specs.OnwardView.{onward_point_view}
use Rattle.herm_check.proofs.Deciding.{all-more, same-outcomes}
use Rattle.herm_check.proofs.ready.all_differ.Goals as goal

pub loop-point-preserved : goal.loop-point-preserved
loop-point-preserved c =
    let p = c.point-item.result in
    all-more (λ (q : Point). Differ (map (λ (e : Edge). e.outcome) q.edges)) onward_point_view c.deref-point-items.result.now c.loop-point.point-index p c.loop-point-test.true c.point-item.is c.loop-point.invariant
    (subst Differ (same-outcomes p p.edges.items) (subst (λ es. Differ (map (λ (e : OnwardEdge). outcome_view e.outcome) es)) c.as_slice.ensures.value (c.differ.ensures c.if-not-differ.false)))
