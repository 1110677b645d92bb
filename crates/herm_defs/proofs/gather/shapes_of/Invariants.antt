use Rattle.std.proofs.Common.{◌≡◌, ◌++◌, map, take}
use Rattle.herm_types.specs.View.{shape_view, parts_view}
use Rattle.herm_meaning.specs.Items.{types_in}
use Rattle.herm_meaning.specs.Meaning.{numbered_shape, part_names}
use Rattle.herm_defs.specs.Seen.{item_seen}
use Rattle.herm_defs.proofs.gather.shapes_of.Given as goal

abbrev pub invariant-loop-item : goal.invariant-loop-item
invariant-loop-item l = record {
  shapes : map shape_view l.shapes.items ≡ map shape_view l.initial.shapes.items ++ map (λ d. numbered_shape l.types l.exceptions d.1) (types_in (map item_seen (take l.item-index l.items)));
  parts : map parts_view l.shapes.items ≡ map parts_view l.initial.shapes.items ++ map (λ d. part_names d.1) (types_in (map item_seen (take l.item-index l.items)));
}
