use Rattle.herm_graph.proofs.Nexts.{both-said}
use Rattle.herm_graph.proofs.cycles.both.Goals as goal

pub returns : goal.returns
returns c = both-said c.args.a.now c.args.b.now c.loop-t.tests.items c.loop-t.t c.loop-t.invariant.each c.loop-t.invariant.said
