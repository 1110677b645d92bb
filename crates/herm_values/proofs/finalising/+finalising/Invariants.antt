use Rattle.std.proofs.Common.{◌≡◌, ◌+◌, ◌++◌, drop, length, IfSome}
use Rattle.herm_model.specs.Finalising.{pending_in}
use Rattle.herm_rows.specs.Nodes.{HasNode}
use Rattle.herm_values.specs.Parts.{parts_from}
use Rattle.herm_values.specs.View.{views_of, row_views, rows_from}
use Rattle.herm_values.specs.Works.{waiting, spare}
use Rattle.herm_values.proofs.finalising.+finalising.Given as goal

abbrev pub invariant-put_places-places : goal.invariant-put_places-places
invariant-put_places-places l =
    let left = pending_in (parts_from (views_of (drop l.held-index l.places))) in
    let all = pending_in (parts_from (views_of l.places)) in
    record {
      items : waiting l.work ++ left ≡ waiting l.initial.work ++ all;
      room : spare l.work + length all ≡ spare l.initial.work + length left;
    }

abbrev pub invariant-put_rows-rows : goal.invariant-put_rows-rows
invariant-put_rows-rows l =
    let left = pending_in (parts_from (rows_from l.table l.next)) in
    let all = pending_in (parts_from (row_views l.table)) in
    record {
      stands : IfSome l.next (λ node. HasNode l.table.keys node.0);
      items : waiting l.work ++ left ≡ waiting l.initial.work ++ all;
      room : spare l.work + length all ≡ spare l.initial.work + length left;
    }

abbrev pub decreases-put_rows-rows : goal.decreases-put_rows-rows
decreases-put_rows-rows l = length (rows_from l.table l.next)
