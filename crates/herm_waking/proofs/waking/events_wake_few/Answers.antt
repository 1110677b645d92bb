use Rattle.herm_sound.specs.laws.SoundLaws.{IsAmong}
use Rattle.herm_waking.proofs.KeptReady.{one-looks-at, local-steps-wake, others-stand}
use Rattle.herm_waking.proofs.WaitsEnd.{waits-end}
use Rattle.herm_waking.proofs.waking.events_wake_few.Goals as goal

pub returns : goal.returns
returns g c = record {
  one = λ machine state keeps. one-looks-at machine (IsAmong state) keeps;
  local_ = λ machine state keeps. local-steps-wake machine (IsAmong state) keeps;
  ended = λ machine state keeps. waits-end machine (IsAmong state) keeps;
  others = λ machine state keeps. others-stand machine (IsAmong state) keeps;
}
