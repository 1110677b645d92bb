use Rattle.herm_runs.proofs.RoundsEnd.{rounds-final}
use Rattle.herm_runs.proofs.runs.rounds_are_final.Goals as goal

pub returns : goal.returns
returns g c = record { final_ = rounds-final }
