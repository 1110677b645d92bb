use Rattle.herm_sound.specs.laws.SoundLaws.{IsAmong}
use Rattle.herm_waking.proofs.RoundsKept.{kept-rounds, kept-rounds-end}
use Rattle.herm_waking.proofs.Schedules.{kept-rounds-suffice}
use Rattle.herm_waking.proofs.rounds.kept_rounds_are_rounds.Goals as goal

pub returns : goal.returns
returns g c = record {
  rounds = λ machine state keeps. kept-rounds machine (IsAmong state) keeps;
  end_ = λ machine state keeps. kept-rounds-end machine (IsAmong state) keeps;
  suffice = λ machine state keeps begins counts goes. kept-rounds-suffice machine (IsAmong state) keeps goes begins counts;
}
