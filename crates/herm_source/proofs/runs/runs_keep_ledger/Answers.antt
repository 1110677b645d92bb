use Rattle.herm_source.specs.Instance.{source}
use Rattle.herm_runs.proofs.SystemLedger.{runs-keep}
use Rattle.herm_source.proofs.instance.SourceLaws.{source-keeps-ledger}
use Rattle.herm_source.proofs.runs.runs_keep_ledger.Goals as goal

pub returns : goal.returns
returns c = record { ledger = λ modules. runs-keep (source modules) (source-keeps-ledger modules) }
