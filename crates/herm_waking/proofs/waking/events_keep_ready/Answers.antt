use Rattle.herm_sound.specs.laws.SoundLaws.{IsAmong}
use Rattle.herm_waking.proofs.KeptReady.{first-is-kept, events-keep-ready}
use Rattle.herm_waking.proofs.waking.events_keep_ready.Goals as goal

pub returns : goal.returns
returns g c = record {
  first = λ machine state keeps begins. first-is-kept machine (IsAmong state) keeps begins;
  events = λ machine state keeps. events-keep-ready machine (IsAmong state) keeps;
}
