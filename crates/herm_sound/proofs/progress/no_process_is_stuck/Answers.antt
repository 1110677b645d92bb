use Rattle.herm_sound.specs.laws.SoundLaws.{IsAmong}
use Rattle.herm_sound.proofs.NotStuck.{none-is-stuck}
use Rattle.herm_sound.proofs.progress.no_process_is_stuck.Goals as goal

pub returns : goal.returns
returns g c = record { none = λ machine state keeps goes. none-is-stuck machine (IsAmong state) keeps goes }
