use Rattle.std.proofs.Common.{◌∙◌, arith, map}
use Rattle.herm_types.specs.View.{parts_view}
use Rattle.herm_types.specs.Table.{shapes_view}
use Rattle.herm_defs.specs.Seen.{item_seen}
use Rattle.herm_defs.proofs.Gathering.{as-many-shapes, outline-is}
use Rattle.herm_defs.proofs.context.outlined.Goals as goal

pub known-requires-clause-few : goal.known-requires-clause-few
known-requires-clause-few c = omega (arith, as-many-shapes (map item_seen c.args.items.now) c.in_ok-shapes.shapes.items c.in_ok-shapes.ensures.shapes, c.requires.types)

pub returns : goal.returns
returns c =
    c.in_ok-context.ensures
    ∙ outline-is (map item_seen c.args.items.now) c.in_ok-types.types c.in_ok-exceptions.exceptions (shapes_view c.in_ok-shapes.shapes.items) (map parts_view c.in_ok-shapes.shapes.items)
    (c.in_ok-types.ensures ∙ c.in_ok-type_list.ensures) (c.in_ok-exceptions.ensures ∙ c.in_ok-exception_list.ensures) c.in_ok-shapes.ensures.shapes c.in_ok-shapes.ensures.parts
