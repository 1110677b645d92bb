use Rattle.herm_code_machine.proofs.SoundImageStates.{image-opening, image-runs-sound, image-along}
use Rattle.herm_code_machine.proofs.sound_images.runs_of_images_are_sound.Goals as goal

pub returns : goal.returns
returns c = record { opening = image-opening; runs = image-runs-sound; along = image-along }
