use Rattle.std.proofs.Common.{ap, length, arith}
use Rattle.herm_graph.proofs.Nexts.{none-more, length-push}
use Rattle.herm_graph.proofs.hints.empty_lists.Goals as goal

pub loop-preserved : goal.loop-preserved
loop-preserved c = record {
  none = rw c.in_ok-push.ensures.items (none-more c.loop.all.items c.new.result c.new.ensures.items c.loop.invariant.none);
  each = omega (arith, ap length c.in_ok-push.ensures.items, length-push c.loop.all.items c.new.result, c.loop.invariant.each);
}
