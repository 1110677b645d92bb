use Rattle.std.proofs.Common.{◌≡◌, ◌++◌, ◌+◌, map, drop}
use Rattle.herm_report.specs.Turns.{items_of}
use Rattle.herm_gather.specs.Diaries.{AreOwn, all_of}
use Rattle.herm_gather.specs.Orders.{place_in_order}
use Rattle.herm_gather.proofs.places.places_of.Given as goal

-- what is so far, with the rest, is the whole
abbrev pub invariant-loop-n : goal.invariant-loop-n
invariant-loop-n l = record {
  own : AreOwn (l.n + 1) (items_of (drop l.n l.diaries)) → AreOwn 1 (items_of l.diaries);
  places : l.places.items ++ map place_in_order (all_of (items_of (drop l.n l.diaries))) ≡ map place_in_order (all_of (items_of l.diaries));
}
