use Rattle.herm_code_machine.proofs.CountedSteps.{steps-counted}
use Rattle.herm_code_machine.proofs.machine.steps_are_counted.Goals as goal

pub returns : goal.returns
returns c = record { counts = steps-counted }
