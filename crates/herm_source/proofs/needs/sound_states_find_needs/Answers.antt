use Rattle.herm_source.proofs.reached.FoundNeeds.{sound-finds}
use Rattle.herm_source.proofs.needs.sound_states_find_needs.Goals as goal

pub returns : goal.returns
returns c = record { needs = sound-finds }
