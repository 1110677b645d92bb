use Rattle.herm_code_machine.proofs.SoundImageStates.{image-end}
use Rattle.herm_code_machine.proofs.sound_images.runs_of_images_end.Goals as goal

pub returns : goal.returns
returns c = record { end = image-end }
