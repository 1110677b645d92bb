use Rattle.std.proofs.Common.{arith, get_or}
use Rattle.herm_compile.proofs.PlaceLaws.{place_small, place_moves, behind_offset}
use Rattle.herm_compile.proofs.places.place_from.Goals as goal

pub place_behind-place-requires-clause-line : goal.place_behind-place-requires-clause-line
place_behind-place-requires-clause-line c = (place_small _ _ c.bytes.invariant.0).0

pub place_behind-place-requires-clause-column : goal.place_behind-place-requires-clause-column
place_behind-place-requires-clause-column c = (place_small _ _ c.bytes.invariant.0).1

pub bytes-preserved : goal.bytes-preserved
bytes-preserved c =
    rw c.place_behind-place.ensures (place_moves c.args.bytes.now c.bytes.place c.bytes.invariant.0 (omega arith), omega (arith, behind_offset c.bytes.place (get_or c.args.bytes.now c.bytes.place.offset 0)))
