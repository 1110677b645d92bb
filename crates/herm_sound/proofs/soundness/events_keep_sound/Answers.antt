use Rattle.herm_sound.specs.laws.SoundLaws.{IsAmong}
use Rattle.herm_sound.proofs.KeptSound.{steps-keep-sound, steps-keep-types, cells-are-all}
use Rattle.herm_sound.proofs.OpeningSound.{runs-keep-sound}
use Rattle.herm_sound.proofs.soundness.events_keep_sound.Goals as goal

pub returns : goal.returns
returns g c = record {
  steps = λ machine state keeps. steps-keep-sound machine (IsAmong state) keeps;
  types = λ machine state keeps. steps-keep-types machine (IsAmong state) keeps;
  runs = λ machine state keeps. runs-keep-sound machine (IsAmong state) keeps;
  alone = λ machine state. cells-are-all machine (IsAmong state);
}
