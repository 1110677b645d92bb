use Rattle.herm_code_machine.proofs.sound.SoundProcesses.{stays-sound}
use Rattle.herm_code_machine.proofs.sound_images.processes_stay_sound.Goals as goal

pub returns : goal.returns
returns c = record { processes = stays-sound }
