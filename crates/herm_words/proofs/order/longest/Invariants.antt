use Rattle.std.proofs.Common.{◌≡◌, ◌≤◌, length}
use Rattle.herm_words.proofs.order.longest.Given as goal

abbrev pub invariant-loop-at : goal.invariant-loop-at
invariant-loop-at l = record {
  lengths : length l.lengths.items ≡ length l.visits;
  next : length l.next.items ≡ length l.visits;
  at : l.at ≤ length l.visits;
}

abbrev pub decreases-loop-at : goal.decreases-loop-at
decreases-loop-at l = l.at
