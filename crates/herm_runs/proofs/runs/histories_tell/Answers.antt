use Rattle.herm_runs.proofs.Histories.{runs-told}
use Rattle.herm_runs.proofs.runs.histories_tell.Goals as goal

pub returns : goal.returns
returns g c = record { told = runs-told }
