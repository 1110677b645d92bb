use Rattle.herm_graph.proofs.Nexts.{put-more, put-whole}
use Rattle.herm_graph.proofs.hints.put_all.Goals as goal

pub loop-v-preserved : goal.loop-v-preserved
loop-v-preserved c = put-more c.args.types.now c.loop-v.v-index _ c.args.t c.args.before.now c.loop-v.before c.put.new.before c.loop-v-test.true c.loop-v.invariant c.in_ok-put.ensures

pub returns : goal.returns
returns c = put-whole c.args.types.now c.loop-v.v-index c.args.t c.args.before.now c.loop-v.before c.loop-v.invariant
