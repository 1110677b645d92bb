use Rattle.herm_code_machine.specs.CodeInstance.{code_machine}
use Rattle.herm_runs.proofs.Histories.{runs-told}
use Rattle.herm_code_machine.proofs.runs.histories_tell.Goals as goal

pub returns : goal.returns
returns c = record { told = λ image. runs-told (code_machine image) }
