use Rattle.herm_waking.proofs.DiariesKept.{begins-at, steps-keep, actions-keep, stamps-between}
use Rattle.herm_waking.proofs.diary.diaries_are_kept.Goals as goal

pub returns : goal.returns
returns g c = record {
  begins = λ machine. begins-at machine;
  steps = λ machine. steps-keep machine;
  actions = λ machine. actions-keep machine;
  stamps = λ machine. stamps-between machine;
}
