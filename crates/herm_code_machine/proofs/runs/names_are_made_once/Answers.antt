use Rattle.herm_code_machine.specs.CodeInstance.{code_machine}
use Rattle.herm_runs.proofs.Numbered.{numbered-once}
use Rattle.herm_code_machine.proofs.runs.names_are_made_once.Goals as goal

pub returns : goal.returns
returns c = record { once = λ image. numbered-once (code_machine image) }
