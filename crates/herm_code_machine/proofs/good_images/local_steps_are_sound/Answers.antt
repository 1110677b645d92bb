use Rattle.herm_code_machine.proofs.sound.Processes.{steps-sound}
use Rattle.herm_code_machine.proofs.good_images.local_steps_are_sound.Goals as goal

pub returns : goal.returns
returns c = record { steps = steps-sound }
