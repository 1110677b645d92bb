use Rattle.herm_code_machine.proofs.sound.RunsBehind.{steps-are_runs}
use Rattle.herm_code_machine.proofs.good_images.steps_are_runs.Goals as goal

pub returns : goal.returns
returns c = record { runs = steps-are_runs }
