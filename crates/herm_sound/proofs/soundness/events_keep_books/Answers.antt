use Rattle.herm_runs.proofs.Numbered.{step-numbered}
use Rattle.herm_runs.proofs.SystemLedger.{event-balance}
use Rattle.herm_sound.specs.laws.SoundLaws.{IsAmong}
use Rattle.herm_sound.proofs.StepsStaySo.{events-keep-all}
use Rattle.herm_sound.proofs.soundness.events_keep_books.Goals as goal

pub returns : goal.returns
returns g c = record {
  numbers = λ machine keeps e s m is numbers. step-numbered machine keeps e s m is numbers;
  ledger = λ machine keeps e s m is ledger w. event-balance machine keeps w e s m is (ledger w);
  all = λ machine state stays. events-keep-all machine (IsAmong state) stays;
}
