use Rattle.std.proofs.Common.{◌≡◌, ◌≤◌, ◌+◌, ◌^◌, ◌++◌, length, IfSome}
use Rattle.herm_model.specs.CellNames.{count_in}
use Rattle.herm_rows.specs.Nodes.{HasNode}
use Rattle.herm_values.specs.Parts.{parts_from}
use Rattle.herm_values.specs.View.{views_of, row_views, rows_from}
use Rattle.herm_values.specs.Whole.{AllWhole}
use Rattle.herm_frames.specs.Counts.{cut}
use Rattle.herm_frames.proofs.rows.copies_of_rows.Given as goal

abbrev pub invariant-rows : goal.invariant-rows
invariant-rows l = record {
  stands : IfSome l.next (λ node. HasNode l.table.keys node.0);
  small : l.total ≤ 2 ^ 63;
  items : views_of l.rows.items ++ rows_from l.table l.next ≡ row_views l.table;
  cells : cut (l.total + count_in (parts_from (rows_from l.table l.next))) ≡ cut (count_in (parts_from (row_views l.table)));
  whole : AllWhole l.rows.items;
}

abbrev pub decreases-rows : goal.decreases-rows
decreases-rows l = length (rows_from l.table l.next)
