use Rattle.herm_sound.specs.laws.SoundLaws.{IsAmong}
use Rattle.herm_waking.proofs.WorldsReported.{worlds-reported}
use Rattle.herm_waking.proofs.report.worlds_are_reported.Goals as goal

pub returns : goal.returns
returns g c = record { report = λ machine state needs keeps begins known knows finds. worlds-reported machine (IsAmong state) (IsAmong needs) keeps begins known knows finds }
