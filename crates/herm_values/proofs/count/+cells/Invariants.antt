use Rattle.std.proofs.Common.{◌≡◌, ◌≤◌, ◌+◌, ◌^◌, min, drop, length, IfSome}
use Rattle.herm_model.specs.CellNames.{count_in}
use Rattle.herm_rows.specs.Nodes.{HasNode}
use Rattle.herm_values.specs.Parts.{parts_from}
use Rattle.herm_values.specs.View.{views_of, row_views, rows_from}
use Rattle.herm_values.proofs.count.+cells.Given as goal

abbrev pub invariant-cells_in-places : goal.invariant-cells_in-places
invariant-cells_in-places l = record {
  small : l.total ≤ 2 ^ 63;
  whole : min (l.total + count_in (parts_from (views_of (drop l.held-index l.places)))) (2 ^ 63) ≡ min (count_in (parts_from (views_of l.places))) (2 ^ 63);
}

abbrev pub invariant-cells_of_rows-rows : goal.invariant-cells_of_rows-rows
invariant-cells_of_rows-rows l = record {
  stands : IfSome l.next (λ node. HasNode l.table.keys node.0);
  small : l.total ≤ 2 ^ 63;
  whole : min (l.total + count_in (parts_from (rows_from l.table l.next))) (2 ^ 63) ≡ min (count_in (parts_from (row_views l.table))) (2 ^ 63);
}

abbrev pub decreases-cells_of_rows-rows : goal.decreases-cells_of_rows-rows
decreases-cells_of_rows-rows l = length (rows_from l.table l.next)
