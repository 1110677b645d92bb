use Rattle.herm_source.proofs.sound.GoingOn.{checked-processes-go-on}
use Rattle.herm_source.proofs.sound_processes.processes_go_on.Goals as goal

pub returns : goal.returns
returns c = record { actions = checked-processes-go-on }
