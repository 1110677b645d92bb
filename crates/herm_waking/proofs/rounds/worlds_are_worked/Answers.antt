use Rattle.herm_sound.specs.laws.SoundLaws.{IsAmong}
use Rattle.herm_waking.proofs.RoundsKept.{nothing-kept}
use Rattle.herm_waking.proofs.WorkedOn.{start-is-worked, events-are-worked}
use Rattle.herm_waking.proofs.rounds.worlds_are_worked.Goals as goal

pub returns : goal.returns
returns g c = record {
  start = λ machine state keeps begins. start-is-worked machine (IsAmong state) keeps begins;
  events = λ machine state keeps. events-are-worked machine (IsAmong state) keeps;
  final_ = λ machine. nothing-kept machine;
}
