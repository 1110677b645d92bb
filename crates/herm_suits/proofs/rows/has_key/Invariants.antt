use Rattle.std.proofs.Common.{◌≡◌, length, IfSome}
use Rattle.herm_rows.specs.Nodes.{HasNode}
use Rattle.herm_model.specs.Tables.{key_of, has_key}
use Rattle.herm_values.specs.Parts.{parts_from}
use Rattle.herm_values.specs.View.{value_view, rows_from}
use Rattle.herm_suits.proofs.rows.has_key.Given as goal

abbrev pub invariant-rows : goal.invariant-rows
invariant-rows l = record {
  stands : IfSome l.next (λ node. HasNode l.table.keys node.0);
  rest : has_key l.columns (key_of l.columns (value_view l.row)) (parts_from (rows_from l.table l.next)) ≡ has_key l.columns (key_of l.columns (value_view l.row)) (parts_from (rows_from l.table l.fn.start));
}

abbrev pub decreases-rows : goal.decreases-rows
decreases-rows l = length (rows_from l.table l.next)
