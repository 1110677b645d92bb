use Rattle.std.proofs.Common.{◌≡◌}
use Rattle.herm_frames.specs.EmptyPlaces.{nothings}
use Rattle.herm_frames.proofs.moves.empty_places.Given as goal

abbrev pub invariant-places : goal.invariant-places
invariant-places l = l.places.items ≡ nothings l._place
