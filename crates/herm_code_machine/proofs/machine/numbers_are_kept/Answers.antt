use Rattle.herm_code_machine.proofs.instance.CodeLaws.{code-keeps-numbers}
use Rattle.herm_code_machine.proofs.machine.numbers_are_kept.Goals as goal

pub returns : goal.returns
returns c = record { numbers = code-keeps-numbers }
