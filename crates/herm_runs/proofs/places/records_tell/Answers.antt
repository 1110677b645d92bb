use Rattle.herm_runs.proofs.Events.{fits-map, after-map}
use Rattle.herm_runs.proofs.places.records_tell.Goals as goal

pub returns : goal.returns
returns c = record { fits = fits-map _ _; leads = after-map _ _ }
