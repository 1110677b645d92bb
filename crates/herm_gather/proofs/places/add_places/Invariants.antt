use Rattle.std.proofs.Common.{◌≡◌, ◌++◌, map, take}
use Rattle.herm_gather.specs.Diaries.{AreOfNumber}
use Rattle.herm_gather.specs.Orders.{place_in_order}
use Rattle.herm_gather.proofs.places.add_places.Given as goal

abbrev pub invariant-loop-entry : goal.invariant-loop-entry
invariant-loop-entry l = record {
  own : AreOfNumber l.number (take l.entry-index l.diary);
  places : l.places.items ≡ l.fn.places.items ++ map place_in_order (take l.entry-index l.diary);
}
