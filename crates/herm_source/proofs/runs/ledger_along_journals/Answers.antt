use Rattle.herm_source.specs.Instance.{source}
use Rattle.herm_runs.proofs.LedgerAlong.{ledger-along}
use Rattle.herm_source.proofs.instance.SourceLaws.{source-keeps-numbers, source-keeps-ledger}
use Rattle.herm_source.proofs.runs.ledger_along_journals.Goals as goal

pub returns : goal.returns
returns c = record { ledger = λ modules. ledger-along (source modules) (source-keeps-numbers modules) (source-keeps-ledger modules) }
