use Rattle.std.proofs.Common.{ap}
use Rattle.herm_defs.proofs.Gathering.{exceptions-step}
use Rattle.herm_defs.proofs.table.exceptions_of.Goals as goal

pub loop-item-preserved : goal.loop-item-preserved
loop-item-preserved c = exceptions-step c.args.items.now c.loop-item.item-index c.item-item.result _ _ _ c.loop-item-test.true c.item-item.is c.loop-item.invariant c.in_ok-push_word.ensures
