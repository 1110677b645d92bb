use Rattle.herm_code_machine.proofs.SoundImageStates.{image-done, image-once}
use Rattle.herm_code_machine.proofs.sound_images.actions_of_images_are_done_once.Goals as goal

pub returns : goal.returns
returns c = record { done = image-done; once = image-once }
