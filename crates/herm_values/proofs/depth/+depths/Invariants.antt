use Rattle.std.proofs.Common.{◌≡◌, max, drop, length, IfSome}
use Rattle.herm_model.specs.Values.{depth_in}
use Rattle.herm_rows.specs.Nodes.{HasNode}
use Rattle.herm_values.specs.Parts.{parts_from}
use Rattle.herm_values.specs.View.{views_of, row_views, rows_from}
use Rattle.herm_values.proofs.depth.+depths.Given as goal

abbrev pub invariant-greatest_depth-places : goal.invariant-greatest_depth-places
invariant-greatest_depth-places l = max l.depth (depth_in (parts_from (views_of (drop l.held-index l.places)))) ≡ depth_in (parts_from (views_of l.places))

abbrev pub invariant-greatest_row_depth-rows : goal.invariant-greatest_row_depth-rows
invariant-greatest_row_depth-rows l = record {
  stands : IfSome l.next (λ node. HasNode l.table.keys node.0);
  whole : max l.depth (depth_in (parts_from (rows_from l.table l.next))) ≡ depth_in (parts_from (row_views l.table));
}

abbrev pub decreases-greatest_row_depth-rows : goal.decreases-greatest_row_depth-rows
decreases-greatest_row_depth-rows l = length (rows_from l.table l.next)
