use Rattle.std.proofs.Common.{arith}
use Rattle.herm_types.specs.View.{parts_view}
use Rattle.herm_defs.proofs.Stepping.{place-within}
use Rattle.herm_defs.proofs.read.part_place.Goals as goal

pub overflow_cast-result : goal.overflow_cast-result
overflow_cast-result c =
    let few = c.keeps.ensures.sized.few_parts c.args.t.0 (parts_view c.shape.result.now) c.shape.ensures.parts in
    omega (arith, c.place_in-place.ensures, place-within (parts_view c.shape.result.now) c.args.name.now, few)
