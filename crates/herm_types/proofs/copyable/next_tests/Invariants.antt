use Rattle.std.proofs.Common.{◌≡◌, map, take}
use Rattle.herm_types.specs.View.{shape_view}
use Rattle.herm_types.specs.Table.{copies}
use Rattle.herm_types.proofs.copyable.next_tests.Given as goal

abbrev pub invariant-loop-shape : goal.invariant-loop-shape
invariant-loop-shape l = l.next.items ≡ map (λ s. copies l.tests (shape_view s)) (take l.shape-index l.shapes)
