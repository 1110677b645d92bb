use Rattle.herm_checked.proofs.CheckedRuns.{sound-with-reach}
use Rattle.herm_checked.proofs.checked_runs.sound_states_stand_reached.Goals as goal

pub returns : goal.returns
returns c = record { reach = sound-with-reach }
