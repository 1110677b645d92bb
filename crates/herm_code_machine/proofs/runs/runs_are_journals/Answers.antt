use Rattle.herm_code_machine.specs.CodeInstance.{code_machine}
use Rattle.herm_runs.proofs.RunsOrdered.{ordered-fits}
use Rattle.herm_code_machine.proofs.instance.CodeLaws.{code-keeps-numbers}
use Rattle.herm_code_machine.proofs.runs.runs_are_journals.Goals as goal

pub returns : goal.returns
returns c = record { fits = λ image. ordered-fits (code_machine image) (code-keeps-numbers image) }
