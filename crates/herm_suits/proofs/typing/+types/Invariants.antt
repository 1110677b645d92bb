use Rattle.std.proofs.Common.{◌≡◌, drop, length, IfSome}
use Rattle.herm_model.specs.Typed.{exactly, many}
use Rattle.herm_types.specs.View.{shape_view}
use Rattle.herm_rows.specs.Nodes.{HasNode}
use Rattle.herm_values.specs.Parts.{parts_from}
use Rattle.herm_values.specs.View.{views_of, row_views, rows_from}
use Rattle.herm_suits.specs.Decided.{fits, contents}
use Rattle.herm_suits.specs.View.{degree_view}
use Rattle.herm_suits.proofs.typing.+types.Given as goal

abbrev pub invariant-are_fit-places : goal.invariant-are_fit-places
invariant-are_fit-places l = record {
  counted : l.place ≡ l.held-index;
  rest : fits l.types.shapes (exactly (drop l.place (contents (degree_view l.degree) (shape_view l.shape)))) (parts_from (views_of (drop l.held-index l.places))) ≡ fits l.types.shapes (exactly (contents (degree_view l.degree) (shape_view l.shape))) (parts_from (views_of l.places));
}

abbrev pub invariant-rows_fit-rows : goal.invariant-rows_fit-rows
invariant-rows_fit-rows l = record {
  stands : IfSome l.next (λ node. HasNode l.table.keys node.0);
  rest : fits l.types.shapes (many l.t.0) (parts_from (rows_from l.table l.next)) ≡ fits l.types.shapes (many l.t.0) (parts_from (row_views l.table));
}

abbrev pub decreases-rows_fit-rows : goal.decreases-rows_fit-rows
decreases-rows_fit-rows l = length (rows_from l.table l.next)
