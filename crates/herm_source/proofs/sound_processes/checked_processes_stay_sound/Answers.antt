use Rattle.herm_source.proofs.sound.SoundProcesses.{stay-sound}
use Rattle.herm_source.proofs.sound_processes.checked_processes_stay_sound.Goals as goal

pub returns : goal.returns
returns c = record { processes = stay-sound }
