use Rattle.herm_code_machine.specs.Beside.{stack_kinds}
use Rattle.herm_code_machine.specs.CodeInstance.{code_machine}
use Rattle.herm_runs.proofs.OnlyTakesWait.{only-takes-wait}
use Rattle.herm_code_machine.proofs.instance.CodeLaws.{code-keeps-numbers, code-knows-places}
use Rattle.herm_code_machine.proofs.runs.only_takes_and_hears_wait.Goals as goal

pub returns : goal.returns
returns c = record { wait = λ image. only-takes-wait (code_machine image) stack_kinds (code-keeps-numbers image) (code-knows-places image) }
