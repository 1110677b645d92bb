use Rattle.herm_sound.specs.laws.SoundLaws.{IsAmong}
use Rattle.herm_sound.proofs.ActOnce.{closes-open, answers-open}
use Rattle.herm_sound.proofs.AnsweredOnce.{calls-are-answered-once}
use Rattle.herm_sound.proofs.ClosedOnce.{ports-close-once}
use Rattle.herm_sound.proofs.soundness.actions_are_done_once.Goals as goal

pub returns : goal.returns
returns g c = record {
  closes = λ machine state keeps. closes-open machine (IsAmong state) keeps;
  answers = λ machine state keeps. answers-open machine (IsAmong state) keeps;
  ports = λ machine state keeps begins. ports-close-once machine (IsAmong state) keeps begins;
  calls = λ machine state keeps begins numbers. calls-are-answered-once machine (IsAmong state) keeps numbers begins;
}
