use Rattle.herm_code_machine.proofs.DoneForms.{instructions-keep-sound}
use Rattle.herm_code_machine.proofs.instructions.instructions_keep_sound.Goals as goal

pub returns : goal.returns
returns c = record { sound = instructions-keep-sound }
