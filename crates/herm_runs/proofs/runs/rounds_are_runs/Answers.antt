use Rattle.herm_runs.proofs.Events.{rounds-run}
use Rattle.herm_runs.proofs.runs.rounds_are_runs.Goals as goal

pub returns : goal.returns
returns g c = record { runs = λ machine most. rounds-run most machine }
