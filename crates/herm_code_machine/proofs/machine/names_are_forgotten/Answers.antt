use Rattle.herm_code_machine.proofs.instance.CodeForgets.{code-forgets-names}
use Rattle.herm_code_machine.proofs.machine.names_are_forgotten.Goals as goal

pub returns : goal.returns
returns c = record { names = code-forgets-names }
