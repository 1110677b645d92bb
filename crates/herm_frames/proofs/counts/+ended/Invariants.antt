use Rattle.std.proofs.Common.{◌≡◌, ◌≤◌, ◌+◌, ◌^◌, min, drop, length, IfSome}
use Rattle.herm_model.specs.Finalising.{finalised_in}
use Rattle.herm_rows.specs.Nodes.{HasNode}
use Rattle.herm_values.specs.Parts.{parts_from}
use Rattle.herm_values.specs.View.{views_of, row_views, rows_from}
use Rattle.herm_frames.proofs.counts.+ended.Given as goal

abbrev pub invariant-ended_in-places : goal.invariant-ended_in-places
invariant-ended_in-places l = record {
  small : l.total ≤ 2 ^ 63;
  whole : min (l.total + length (finalised_in (parts_from (views_of (drop l.held-index l.places))))) (2 ^ 63) ≡ min (length (finalised_in (parts_from (views_of l.places)))) (2 ^ 63);
}

abbrev pub invariant-ended_rows-rows : goal.invariant-ended_rows-rows
invariant-ended_rows-rows l = record {
  stands : IfSome l.next (λ node. HasNode l.table.keys node.0);
  small : l.total ≤ 2 ^ 63;
  whole : min (l.total + length (finalised_in (parts_from (rows_from l.table l.next)))) (2 ^ 63) ≡ min (length (finalised_in (parts_from (row_views l.table)))) (2 ^ 63);
}

abbrev pub decreases-ended_rows-rows : goal.decreases-ended_rows-rows
decreases-ended_rows-rows l = length (rows_from l.table l.next)
