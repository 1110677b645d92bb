use Rattle.herm_sound.specs.laws.SoundLaws.{IsAmong}
use Rattle.herm_sound.proofs.OpeningSound.{opening-is-sound, runs-are-sound, states-along}
use Rattle.herm_sound.proofs.soundness.runs_are_sound.Goals as goal

pub returns : goal.returns
returns g c = record {
  opening = λ machine state keeps begins. opening-is-sound machine (IsAmong state) keeps begins;
  runs = λ machine state keeps begins. runs-are-sound machine (IsAmong state) keeps begins;
  along = λ machine state keeps begins. states-along machine (IsAmong state) keeps begins;
}
