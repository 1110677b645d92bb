use Rattle.herm_code_machine.proofs.sound.CodeBegins.{begins-sound}
use Rattle.herm_code_machine.proofs.sound_images.main_begins_sound.Goals as goal

pub returns : goal.returns
returns c = record { begins = begins-sound }
