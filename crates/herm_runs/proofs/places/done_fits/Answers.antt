use Rattle.herm_runs.proofs.Events.{done-fits}
use Rattle.herm_runs.proofs.places.done_fits.Goals as goal

pub returns : goal.returns
returns c = record { fits = done-fits }
