use Rattle.herm_runs.proofs.Events.{run-stamped}
use Rattle.herm_runs.proofs.runs.runs_are_stamped.Goals as goal

pub returns : goal.returns
returns g c = record { stamped = run-stamped }
