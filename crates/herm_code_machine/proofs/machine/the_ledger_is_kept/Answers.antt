use Rattle.herm_code_machine.proofs.instance.CodeLaws.{code-keeps-ledger}
use Rattle.herm_code_machine.proofs.machine.the_ledger_is_kept.Goals as goal

pub returns : goal.returns
returns c = record { ledger = code-keeps-ledger }
