use Rattle.herm_code_machine.proofs.SoundImageStates.{images-keep-standing}
use Rattle.herm_code_machine.proofs.sound_images.places_stay_typed.Goals as goal

pub returns : goal.returns
returns c = record { standing = images-keep-standing }
