use Rattle.std.proofs.Common.{◌≡◌, length, IfSome}
use Rattle.herm_model.specs.Values.{joined}
use Rattle.herm_rows.specs.Nodes.{HasNode}
use Rattle.herm_values.specs.Parts.{parts_from}
use Rattle.herm_values.specs.View.{table_parts, rows_from}
use Rattle.herm_values.specs.Whole.{IsWholeTable}
use Rattle.herm_frames.proofs.rekeying.rekeyed.Given as goal

-- The rows that were made and those that are left are all rows.
abbrev pub invariant-rows : goal.invariant-rows
invariant-rows l = record {
  stands : IfSome l.next (λ node. HasNode l.table.keys node.0);
  columns : l.made.columns.items ≡ l.columns;
  rows : joined (table_parts l.made) (parts_from (rows_from l.table l.next)) ≡ table_parts l.table;
  whole : IsWholeTable l.made;
}

abbrev pub decreases-rows : goal.decreases-rows
decreases-rows l = length (rows_from l.table l.next)
