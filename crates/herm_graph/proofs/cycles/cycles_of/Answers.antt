use Rattle.std.proofs.Common.{◌≤◌, length, arith, ℕ, Vec, Global}
use Rattle.herm_model.proofs.Lists.{length-map}
use Rattle.herm_types.specs.Table.{shapes_view}
use Rattle.herm_types.specs.Chosen.{lists}
use Rattle.herm_graph.proofs.Meeting.{cycles-all}
use Rattle.herm_graph.proofs.cycles.cycles_of.Goals as goal

pub returns-clause-said : goal.returns-clause-said
returns-clause-said c =
    let many = length-map (λ (v : Vec ℕ Global). v.items) c.args.next.now in
    let low : length (lists c.args.next.now) ≤ c.loop-t.t = omega (arith, many, c.loop-t-test.false) in
    let high : c.loop-t.t ≤ length (lists c.args.next.now) = omega (arith, many, c.loop-t.auto.t-end) in
    cycles-all (shapes_view c.args.shapes.now) (lists c.args.next.now) c.requires.named c.loop-t.t c.loop-t.cycles.items c.loop-t.invariant.each low high c.loop-t.invariant.said
