use Rattle.herm_code_machine.proofs.sound.CodeWants.{wants-had}
use Rattle.herm_code_machine.proofs.sound_images.wants_are_for_what_is_there.Goals as goal

pub returns : goal.returns
returns c = record { wants = wants-had }
