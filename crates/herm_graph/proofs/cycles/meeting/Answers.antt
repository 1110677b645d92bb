use Rattle.std.proofs.Common.{◌≡◌, ◌≤◌, ◌↔◌, length, arith, sym, subst, List, Bool, ℕ, IsTrue, Vec, Global}
use Rattle.herm_model.proofs.Lists.{length-map}
use Rattle.herm_types.specs.Table.{says, shapes_view}
use Rattle.herm_types.specs.Chosen.{lists}
use Rattle.herm_graph.specs.declared.graph.Rule.TheVariants.{AnyOf}
use Rattle.herm_graph.specs.Graph.{IsReached}
use Rattle.herm_graph.proofs.Meeting.{meets-all}
use Rattle.herm_graph.proofs.cycles.meeting.Goals as goal

pub returns : goal.returns
returns c =
    let many = length-map (λ (v : Vec ℕ Global). v.items) c.args.next.now in
    let low : length (lists c.args.next.now) ≤ c.loop-t.t = omega (arith, many, c.loop-t-test.false) in
    let each : length c.args.goal.now ≡ length (lists c.args.next.now) = omega (arith, many, c.requires.each) in
    let reached = subst (λ (tests : List Bool). (t : ℕ) → IsTrue (says tests t) ↔ IsReached AnyOf c.args.goal.now (lists c.args.next.now) t) (sym c.as_slice-reaching.ensures.value) c.in_ok-found.ensures in
    meets-all (shapes_view c.args.shapes.now) (lists c.args.next.now) c.requires.named c.loop-t.t c.args.goal.now c.as_slice-reaching.result.now c.loop-t.meets.items c.loop-t.invariant.each low each c.loop-t.invariant.said reached
