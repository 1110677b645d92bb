use Rattle.herm_compile.proofs.SpotLaws.{there_short}
use Rattle.herm_compile.proofs.spots.locate.Goals as goal

pub place_in-place-requires-clause-short : goal.place_in-place-requires-clause-short
place_in-place-requires-clause-short c = rw c.bytes_of.ensures (there_short _ c.owner_of-file.result c.requires.short)
