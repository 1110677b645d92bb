use Rattle.herm_code_machine.specs.CodeInstance.{code_machine}
use Rattle.herm_runs.proofs.Events.{run-stamped}
use Rattle.herm_code_machine.proofs.runs.runs_are_stamped.Goals as goal

pub returns : goal.returns
returns c = record { stamped = λ image. run-stamped (code_machine image) }
