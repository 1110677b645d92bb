use Rattle.herm_source.proofs.reached.RunsReach.{along-finds}
use Rattle.herm_source.proofs.needs.sound_states_along_find_needs.Goals as goal

pub returns : goal.returns
returns c = record { needs = along-finds }
