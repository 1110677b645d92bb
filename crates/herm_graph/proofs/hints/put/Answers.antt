use Rattle.herm_graph.proofs.Nexts.{next-set}
use Rattle.herm_graph.proofs.hints.put.Goals as goal

pub returns-in_ok-push : goal.returns-in_ok-push
returns-in_ok-push c = next-set c.args.before.now c.args.v c.args.t _ c.push.new.self c.if-place-before.true c.in_ok-push.ensures.items
