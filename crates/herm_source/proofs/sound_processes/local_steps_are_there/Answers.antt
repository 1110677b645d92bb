use Rattle.herm_source.proofs.sound.SoundProcesses.{steps-there}
use Rattle.herm_source.proofs.sound_processes.local_steps_are_there.Goals as goal

pub returns : goal.returns
returns c = record { steps = steps-there }
