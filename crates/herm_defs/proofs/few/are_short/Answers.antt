use Rattle.std.proofs.Common.{arith}
use Rattle.herm_defs.proofs.Gathering.{few-more}
use Rattle.herm_defs.proofs.few.are_short.Goals as goal

pub loop-item-preserved : goal.loop-item-preserved
loop-item-preserved c = few-more c.args.items.now c.loop-item.item-index c.item-item.result c.loop-item-test.true c.item-item.is c.loop-item.invariant (omega (arith, c.form_total.ensures, c.if-form_total-ge-TOO_MANY.false))
