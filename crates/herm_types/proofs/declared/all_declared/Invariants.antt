use Rattle.std.proofs.Common.{◌≡◌, map, take}
use Rattle.herm_types.specs.View.{fact_view, shape_view}
use Rattle.herm_types.specs.Table.{shapes_view}
use Rattle.herm_types.specs.Messages.{closed_list_of}
use Rattle.herm_types.proofs.declared.all_declared.Given as goal

abbrev pub invariant-loop-shape : goal.invariant-loop-shape
invariant-loop-shape l = map (λ v. map fact_view v.items) l.declared.items ≡ map (λ s. closed_list_of (shapes_view l.shapes) (shape_view s)) (take l.shape-index l.shapes)
