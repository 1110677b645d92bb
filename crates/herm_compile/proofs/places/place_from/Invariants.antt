use Rattle.std.proofs.Common.{◌≤◌, ◌-◌}
use Rattle.herm_compile.specs.Places.{IsPlace}
use Rattle.herm_compile.proofs.places.place_from.Given as goal

abbrev pub invariant-bytes : goal.invariant-bytes
invariant-bytes l = IsPlace l.bytes l.place × (l.place.offset ≤ l.offset)

abbrev pub decreases-bytes : goal.decreases-bytes
decreases-bytes l = l.offset - l.place.offset
