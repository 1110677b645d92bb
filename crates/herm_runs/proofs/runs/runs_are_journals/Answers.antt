use Rattle.herm_runs.proofs.RunsOrdered.{ordered-fits}
use Rattle.herm_runs.proofs.runs.runs_are_journals.Goals as goal

pub returns : goal.returns
returns g c = record { fits = ordered-fits }
