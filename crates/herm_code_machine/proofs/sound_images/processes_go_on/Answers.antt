use Rattle.herm_code_machine.proofs.sound.SoundProcesses.{goes-on}
use Rattle.herm_code_machine.proofs.sound_images.processes_go_on.Goals as goal

pub returns : goal.returns
returns c = record { onward = goes-on }
