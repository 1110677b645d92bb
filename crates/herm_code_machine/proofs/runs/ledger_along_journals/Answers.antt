use Rattle.herm_code_machine.specs.CodeInstance.{code_machine}
use Rattle.herm_runs.proofs.LedgerAlong.{ledger-along}
use Rattle.herm_code_machine.proofs.instance.CodeLaws.{code-keeps-numbers, code-keeps-ledger}
use Rattle.herm_code_machine.proofs.runs.ledger_along_journals.Goals as goal

pub returns : goal.returns
returns c = record { ledger = λ image. ledger-along (code_machine image) (code-keeps-numbers image) (code-keeps-ledger image) }
