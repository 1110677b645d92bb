use Rattle.herm_source.proofs.placed.KeptStanding.{checked-processes-keep-standing}
use Rattle.herm_source.proofs.places.processes_keep_standing.Goals as goal

pub returns : goal.returns
returns c = record { standing = checked-processes-keep-standing }
