use Rattle.herm_code_machine.specs.CodeInstance.{code_machine}
use Rattle.herm_runs.proofs.Numbered.{runs-numbered}
use Rattle.herm_code_machine.proofs.instance.CodeLaws.{code-keeps-numbers}
use Rattle.herm_code_machine.proofs.runs.runs_are_numbered.Goals as goal

pub returns : goal.returns
returns c = record { numbered = λ image. runs-numbered (code_machine image) (code-keeps-numbers image) }
