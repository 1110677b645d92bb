use Rattle.herm_syntax.specs.Trees.{Letters, Shape}
use Rattle.herm_defs.proofs.Gathering.{types-step}
use Rattle.herm_defs.proofs.gather.type_words.Goals as goal

pub loop-item-preserved : goal.loop-item-preserved
loop-item-preserved c = types-step (λ (d : Letters × Shape). d.0) c.args.items.now c.loop-item.item-index c.item-item.result _ _ _ c.loop-item-test.true c.item-item.is c.loop-item.invariant c.in_ok-push_type.ensures
