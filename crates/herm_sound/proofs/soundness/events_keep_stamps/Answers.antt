use Rattle.herm_runs.proofs.Events.{stamped-on}
use Rattle.herm_sound.proofs.soundness.events_keep_stamps.Goals as goal

pub returns : goal.returns
returns g c = record { stamps = λ machine e r t is stamped. stamped-on machine e r t stamped is }
