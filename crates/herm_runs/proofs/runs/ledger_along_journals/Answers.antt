use Rattle.herm_runs.proofs.LedgerAlong.{ledger-along}
use Rattle.herm_runs.proofs.runs.ledger_along_journals.Goals as goal

pub returns : goal.returns
returns g c = record { ledger = ledger-along }
