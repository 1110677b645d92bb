use Rattle.herm_runs.proofs.DiariesTold.{diaries-tell}
use Rattle.herm_runs.proofs.diaries.diaries_tell.Goals as goal

pub returns : goal.returns
returns g c = record { told = diaries-tell }
