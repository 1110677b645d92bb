use Rattle.herm_sound.specs.laws.SoundLaws.{IsAmong}
use Rattle.herm_sound.proofs.RoundsReachEnd.{events-are-bounded}
use Rattle.herm_waking.proofs.ClocksWithin.{stamped-within, run-clocks, run-clocks-fit}
use Rattle.herm_waking.proofs.report.clocks_are_within.Goals as goal

pub returns : goal.returns
returns g c = record {
  stamped = stamped-within;
  runs = λ machine. run-clocks machine;
  fit = λ machine state keeps begins counts. run-clocks-fit machine (events-are-bounded machine (IsAmong state) keeps begins counts);
}
