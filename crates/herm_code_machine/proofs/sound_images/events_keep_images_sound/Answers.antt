use Rattle.herm_code_machine.proofs.SoundImageStates.{image-steps, image-types, image-runs}
use Rattle.herm_code_machine.proofs.sound_images.events_keep_images_sound.Goals as goal

pub returns : goal.returns
returns c = record { steps = image-steps; types = image-types; runs = image-runs }
