use Rattle.std.proofs.Common.{ap}
use Rattle.herm_syntax.specs.Trees.{Letters, Shape}
use Rattle.herm_meaning.specs.Meaning.{part_names, meant_shape}
use Rattle.herm_defs.proofs.Gathering.{types-step, seen-in}
use Rattle.herm_defs.proofs.table.defined_of.Goals as goal

pub push_defined-requires-clause-few : goal.push_defined-requires-clause-few
push_defined-requires-clause-few c = c.requires.few _ (seen-in c.args.items.now c.loop-item.item-index c.item-item.result c.loop-item-test.true c.item-item.is)

pub loop-item-preserved : goal.loop-item-preserved
loop-item-preserved c = record {
  names = types-step (λ (d : Letters × Shape). d.0) c.args.items.now c.loop-item.item-index c.item-item.result _ _ _ c.loop-item-test.true c.item-item.is c.loop-item.invariant.names c.in_ok-push_defined.ensures.names;
  shapes = types-step (λ (d : Letters × Shape). meant_shape c.args.table.now d.1) c.args.items.now c.loop-item.item-index c.item-item.result _ _ _ c.loop-item-test.true c.item-item.is c.loop-item.invariant.shapes c.in_ok-push_defined.ensures.shapes;
  parts = types-step (λ (d : Letters × Shape). part_names d.1) c.args.items.now c.loop-item.item-index c.item-item.result _ _ _ c.loop-item-test.true c.item-item.is c.loop-item.invariant.parts c.in_ok-push_defined.ensures.parts;
}
