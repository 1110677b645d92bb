use Rattle.herm_sound.specs.laws.SoundLaws.{IsAmong}
use Rattle.herm_sound.proofs.RoundsReachEnd.{rounds-suffice}
use Rattle.herm_sound.proofs.progress.rounds_suffice.Goals as goal

pub returns : goal.returns
returns g c = record { rounds = λ machine state keeps begins counts goes. rounds-suffice machine (IsAmong state) keeps begins counts goes }
