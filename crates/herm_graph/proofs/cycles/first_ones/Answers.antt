use Rattle.herm_graph.proofs.Nexts.{first-said}
use Rattle.herm_graph.proofs.cycles.first_ones.Goals as goal

pub returns : goal.returns
returns c = first-said c.args.firsts.now c.loop-t.tests.items c.loop-t.t c.loop-t.invariant.each c.loop-t.invariant.said
