use Rattle.std.proofs.Common.{◌≡◌, ◌<◌, map, length, sym, subst, arith}
use Rattle.herm_model.specs.Lists.{IsIn}
use Rattle.herm_model.specs.ControlPaths.{Edge, Point}
use Rattle.herm_model.specs.laws.FlowLaws.{IsThere}
use Rattle.herm_model.proofs.Lists.{length-map, in-map_from}
use Rattle.herm_flow.specs.declared.onward.OnwardEdge.{OnwardEdge}
use Rattle.herm_flow.specs.declared.onward.OnwardPoint.{OnwardPoint}
use Rattle.herm_flow.specs.OnwardView.{onward_point_view}
use Rattle.herm_check.specs.View.{edge_in}
use Rattle.herm_check.proofs.Deciding.{all-more, all-done}
use Rattle.herm_check.proofs.ready.all_lead_there.Goals as goal

-- the edges as contracts see them
seen-there : (n : _) (p : OnwardPoint) → ((e : OnwardEdge) → IsIn e p.edges.items → e.to < n) → (e : Edge) → IsIn e (onward_point_view p).edges → IsThere n e.target
seen-there n p there e member = let d = in-map_from (edge_in p) e p.edges.items member in subst (λ (x : Edge). IsThere n x.target) (sym d.2) (there d.0 d.1)

pub loop-point-preserved : goal.loop-point-preserved
loop-point-preserved c =
    let p = c.point-item.result in
    all-more (λ (q : Point). (e : Edge) → IsIn e q.edges → IsThere c.len-count.result e.target) onward_point_view c.deref-point-items.result.now c.loop-point.point-index p c.loop-point-test.true c.point-item.is c.loop-point.invariant
    (seen-there c.len-count.result p (subst (λ es. (e : OnwardEdge) → IsIn e es → e.to < c.len-count.result) c.as_slice.ensures.value (c.lead_there.ensures c.if-not-lead_there.false)))

pub returns : goal.returns
returns c _ p e member m =
    let items = c.args.flow.now.points.items in
    let many : c.len-count.result ≡ length (map onward_point_view items) = omega (arith, c.len-count.ensures, length-map onward_point_view items) in
    let all = all-done (λ (p : Point). (e : Edge) → IsIn e p.edges → IsThere c.len-count.result e.target) onward_point_view c.deref-point-items.result.now c.loop-point.point-index c.loop-point-test.false c.loop-point.invariant in
    subst (λ n. IsThere n e.target) many (all p (subst (λ xs. IsIn p (map onward_point_view xs)) (sym c.deref-point-items.ensures.value) member) e m)
