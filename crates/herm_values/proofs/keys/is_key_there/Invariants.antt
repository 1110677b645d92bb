use Rattle.std.proofs.Common.{◌≡◌, ◌-◌, drop, length, IfSome}
use Rattle.std.specs.List.{list_any}
use Rattle.herm_rows.specs.Keys.{rows_of}
use Rattle.herm_rows.specs.Nodes.{HasNode, place_at}
use Rattle.herm_model.specs.Tables.{key_of}
use Rattle.herm_values.specs.View.{value_view}
use Rattle.herm_values.proofs.KeyedRows.{is_keyed}
use Rattle.herm_values.proofs.keys.is_key_there.Given as goal

abbrev pub invariant-keys : goal.invariant-keys
invariant-keys l = record {
  stands : IfSome l.next (λ node. HasNode l.keys node.0);
  left : list_any (is_keyed (key_of l.columns (value_view l.row))) (drop (place_at l.keys l.next) (rows_of l.keys)) ≡ list_any (is_keyed (key_of l.columns (value_view l.row))) (rows_of l.keys);
}

abbrev pub decreases-keys : goal.decreases-keys
decreases-keys l = length l.keys - place_at l.keys l.next
