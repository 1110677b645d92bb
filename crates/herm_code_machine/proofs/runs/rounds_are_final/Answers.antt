use Rattle.herm_code_machine.specs.CodeInstance.{code_machine}
use Rattle.herm_runs.proofs.RoundsEnd.{rounds-final}
use Rattle.herm_code_machine.proofs.instance.CodeLaws.{code-keeps-numbers}
use Rattle.herm_code_machine.proofs.runs.rounds_are_final.Goals as goal

pub returns : goal.returns
returns c = record { final_ = λ image. rounds-final (code_machine image) (code-keeps-numbers image) }
