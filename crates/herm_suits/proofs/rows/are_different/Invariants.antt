use Rattle.std.proofs.Common.{◌≡◌, length, IfSome}
use Rattle.herm_rows.specs.Nodes.{HasNode}
use Rattle.herm_model.specs.Tables.{has_distinct_keys}
use Rattle.herm_values.specs.Parts.{parts_from}
use Rattle.herm_values.specs.View.{row_views, rows_from}
use Rattle.herm_suits.proofs.rows.are_different.Given as goal

abbrev pub invariant-rows : goal.invariant-rows
invariant-rows l = record {
  stands : IfSome l.next (λ node. HasNode l.table.keys node.0);
  rest : has_distinct_keys l.columns (parts_from (rows_from l.table l.next)) ≡ has_distinct_keys l.columns (parts_from (row_views l.table));
}

abbrev pub decreases-rows : goal.decreases-rows
decreases-rows l = length (rows_from l.table l.next)
