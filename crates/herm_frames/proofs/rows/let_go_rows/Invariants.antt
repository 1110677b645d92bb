use Rattle.std.proofs.Common.{◌≡◌, ◌≤◌, ◌+◌, ◌^◌, ◌++◌, length}
use Rattle.herm_model.specs.Finalising.{finalised_in, pending_in}
use Rattle.herm_places.specs.Held.{seen_places}
use Rattle.herm_values.specs.Works.{waiting}
use Rattle.herm_frames.specs.Counts.{cut}
use Rattle.herm_frames.proofs.rows.let_go_rows.Given as goal

abbrev pub invariant-rows : goal.invariant-rows
invariant-rows l = record {
  small : l.count ≤ 2 ^ 63;
  waiting : waiting l.work ++ pending_in (seen_places l.left.items) ≡ waiting l.initial.work ++ pending_in (seen_places l.initial.left.items);
  count : cut (l.count + length (finalised_in (seen_places l.left.items))) ≡ cut (l.initial.count + length (finalised_in (seen_places l.initial.left.items)));
}

abbrev pub decreases-rows : goal.decreases-rows
decreases-rows l = length l.left.items
