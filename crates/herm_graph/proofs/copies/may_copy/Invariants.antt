use Rattle.std.proofs.Common.{◌≡◌, ◌||◌, map, take}
use Rattle.herm_model.specs.Types as types
use Rattle.herm_model.specs.Copyable as copyable
use Rattle.herm_types.specs.View.{shape_view}
use Rattle.herm_graph.proofs.copies.may_copy.Given as goal

abbrev pub invariant-loop-shape : goal.invariant-loop-shape
invariant-loop-shape l = l.tests.items ≡ map (λ s. copyable.is_plain (shape_view s) || copyable.is_composed (shape_view s)) (take l.shape-index l.shapes)
