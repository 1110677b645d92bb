use Rattle.std.proofs.Common.{◌≡◌, ◌++◌, ◌-◌, drop, map, length, IfSome}
use Rattle.herm_rows.specs.Keys.{rows_of}
use Rattle.herm_rows.specs.Nodes.{HasNode, place_at}
use Rattle.herm_values.specs.Copies.{key_row_view}
use Rattle.herm_values.proofs.copying.copy_keys.Given as goal

abbrev pub invariant-keys : goal.invariant-keys
invariant-keys l = record {
  stands : IfSome l.next (λ node. HasNode l.keys node.0);
  whole : map key_row_view (rows_of l.copies) ++ map key_row_view (drop (place_at l.keys l.next) (rows_of l.keys)) ≡ map key_row_view (rows_of l.keys);
}

abbrev pub decreases-keys : goal.decreases-keys
decreases-keys l = length l.keys - place_at l.keys l.next
