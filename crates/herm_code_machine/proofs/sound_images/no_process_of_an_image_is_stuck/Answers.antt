use Rattle.herm_code_machine.proofs.SoundImageStates.{image-none, image-coded}
use Rattle.herm_code_machine.proofs.sound_images.no_process_of_an_image_is_stuck.Goals as goal

pub returns : goal.returns
returns c = record { none = image-none; code = image-coded }
