use Rattle.herm_runs.proofs.SystemLedger.{runs-keep}
use Rattle.herm_runs.proofs.runs.runs_keep_ledger.Goals as goal

pub returns : goal.returns
returns g c = record { ledger = λ machine keeps limits argument first events r. runs-keep machine keeps limits argument first events r }
