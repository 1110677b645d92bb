use Rattle.herm_syntax.specs.Trees.{Letters, Shape}
use Rattle.herm_meaning.specs.Meaning.{numbered_shape, part_names}
use Rattle.herm_defs.proofs.Gathering.{types-step, seen-in}
use Rattle.herm_defs.proofs.gather.shapes_of.Goals as goal

pub push_shape-requires-clause-few : goal.push_shape-requires-clause-few
push_shape-requires-clause-few c = c.requires.few _ (seen-in c.args.items.now c.loop-item.item-index c.item-item.result c.loop-item-test.true c.item-item.is)

pub loop-item-preserved : goal.loop-item-preserved
loop-item-preserved c = record {
  shapes = types-step (λ (d : Letters × Shape). numbered_shape c.args.types.now c.args.exceptions.now d.1) c.args.items.now c.loop-item.item-index c.item-item.result _ _ _ c.loop-item-test.true c.item-item.is c.loop-item.invariant.shapes c.in_ok-push_shape.ensures.shapes;
  parts = types-step (λ (d : Letters × Shape). part_names d.1) c.args.items.now c.loop-item.item-index c.item-item.result _ _ _ c.loop-item-test.true c.item-item.is c.loop-item.invariant.parts c.in_ok-push_shape.ensures.parts;
}
