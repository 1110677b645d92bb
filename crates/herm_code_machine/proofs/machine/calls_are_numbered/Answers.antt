use Rattle.herm_code_machine.proofs.CodeCalls.{code-numbers-calls}
use Rattle.herm_code_machine.proofs.machine.calls_are_numbered.Goals as goal

pub returns : goal.returns
returns c = record { calls = code-numbers-calls }
