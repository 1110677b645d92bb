use Rattle.herm_runs.proofs.Numbered.{runs-numbered}
use Rattle.herm_runs.proofs.runs.runs_are_numbered.Goals as goal

pub returns : goal.returns
returns g c = record { numbered = runs-numbered }
