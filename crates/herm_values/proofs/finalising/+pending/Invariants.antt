use Rattle.std.proofs.Common.{◌≡◌, ◌≤◌, ◌+◌, min, drop, length, IfSome}
use Rattle.herm_model.specs.Finalising.{pending_in}
use Rattle.herm_rows.specs.Nodes.{HasNode}
use Rattle.herm_values.specs.Parts.{parts_from}
use Rattle.herm_values.specs.View.{views_of, row_views, rows_from}
use Rattle.herm_values.proofs.finalising.+pending.Given as goal

abbrev pub invariant-pending_in-places : goal.invariant-pending_in-places
invariant-pending_in-places l = record {
  small : l.total ≤ 18446744073709551615;
  whole : min (l.total + length (pending_in (parts_from (views_of (drop l.held-index l.places))))) 18446744073709551615 ≡ min (length (pending_in (parts_from (views_of l.places)))) 18446744073709551615;
}

abbrev pub invariant-pending_in_rows-rows : goal.invariant-pending_in_rows-rows
invariant-pending_in_rows-rows l = record {
  stands : IfSome l.next (λ node. HasNode l.table.keys node.0);
  small : l.total ≤ 18446744073709551615;
  whole : min (l.total + length (pending_in (parts_from (rows_from l.table l.next)))) 18446744073709551615 ≡ min (length (pending_in (parts_from (row_views l.table)))) 18446744073709551615;
}

abbrev pub decreases-pending_in_rows-rows : goal.decreases-pending_in_rows-rows
decreases-pending_in_rows-rows l = length (rows_from l.table l.next)
