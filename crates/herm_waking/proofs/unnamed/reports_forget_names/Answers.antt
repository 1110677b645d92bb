use Rattle.herm_waking.proofs.ReportsForgotten.{fates-forget, queues-forget, counts-forget}
use Rattle.herm_waking.proofs.unnamed.reports_forget_names.Goals as goal

pub returns : goal.returns
returns g c = record {
  ends = λ machine nameless without forgets count. fates-forget machine nameless without forgets count;
  queues = λ machine nameless without forgets count. queues-forget machine nameless without forgets count;
  counts = λ machine nameless without forgets count. counts-forget machine nameless without forgets count;
}
