use Rattle.herm_checked.proofs.RunningPrograms.{free-labels}
use Rattle.herm_checked.proofs.running_programs.labels_past_a_raise_are_free.Goals as goal

pub returns : goal.returns
returns c = record { free = free-labels }
