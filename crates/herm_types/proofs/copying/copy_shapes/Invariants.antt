use Rattle.std.proofs.Common.{◌≡◌, map, take}
use Rattle.herm_types.specs.View.{shape_view, parts_view}
use Rattle.herm_types.proofs.copying.copy_shapes.Given as goal

abbrev pub invariant-loop-shape : goal.invariant-loop-shape
invariant-loop-shape l = record {
  shapes : map shape_view l.copies.items ≡ map shape_view (take l.shape-index l.shapes);
  parts : map parts_view l.copies.items ≡ map parts_view (take l.shape-index l.shapes);
}
