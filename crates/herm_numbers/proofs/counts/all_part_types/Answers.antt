use Rattle.std.proofs.Common.{arith}
use Rattle.herm_types.specs.View.{shape_view}
use Rattle.herm_numbers.proofs.Counted.{lists_next}
use Rattle.herm_numbers.proofs.counts.all_part_types.Goals as goal

pub types-preserved : goal.types-preserved
types-preserved c = record {
  within = omega (arith, c.types-test.true, c.len.ensures);
  types = lists_next c.types.found.items c.push.new.self.items c.in_ok-parts.parts c.args.types.now.shapes c.types.t (shape_view c.shape.result.now) c.in_ok-push.ensures.items c.types.invariant.types c.in_ok-parts.ensures.types c.shape.ensures.shape;
}
