use Rattle.std.proofs.Common.{◌≡◌, map, take}
use Rattle.herm_types.specs.View.{parts_view}
use Rattle.herm_defs.proofs.context.part_names.Given as goal

abbrev pub invariant-loop-shape : goal.invariant-loop-shape
invariant-loop-shape l = l.all.items ≡ map parts_view (take l.shape-index l.shapes)
