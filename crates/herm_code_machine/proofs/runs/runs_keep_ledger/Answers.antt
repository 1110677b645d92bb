use Rattle.herm_code_machine.specs.CodeInstance.{code_machine}
use Rattle.herm_runs.proofs.SystemLedger.{runs-keep}
use Rattle.herm_code_machine.proofs.instance.CodeLaws.{code-keeps-ledger}
use Rattle.herm_code_machine.proofs.runs.runs_keep_ledger.Goals as goal

pub returns : goal.returns
returns c = record { ledger = λ image. runs-keep (code_machine image) (code-keeps-ledger image) }
