use Rattle.herm_code_machine.specs.CodeInstance.{code_machine}
use Rattle.herm_runs.proofs.Events.{rounds-run}
use Rattle.herm_code_machine.proofs.runs.rounds_are_runs.Goals as goal

pub returns : goal.returns
returns c = record { runs = λ image most. rounds-run most (code_machine image) }
