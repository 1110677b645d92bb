use Rattle.herm_sound.specs.laws.SoundLaws.{IsAmong}
use Rattle.herm_waking.proofs.Schedules.{gone-along, steps-made, schedules-there}
use Rattle.herm_waking.proofs.rounds.schedules_are_gone_along.Goals as goal

pub returns : goal.returns
returns g c = record {
  along = λ machine state keeps. gone-along machine (IsAmong state) keeps;
  steps = λ machine state keeps goes. steps-made machine (IsAmong state) keeps goes;
  there = λ machine state keeps goes. schedules-there machine (IsAmong state) keeps goes;
}
