use Rattle.herm_runs.proofs.OnlyTakesWait.{only-takes-wait}
use Rattle.herm_runs.proofs.runs.only_takes_and_hears_wait.Goals as goal

pub returns : goal.returns
returns g c = record { wait = only-takes-wait }
