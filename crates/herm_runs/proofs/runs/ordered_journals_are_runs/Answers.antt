use Rattle.herm_runs.proofs.order.OrderedRuns.{ordered-runs}
use Rattle.herm_runs.proofs.runs.ordered_journals_are_runs.Goals as goal

pub returns : goal.returns
returns g c = record { runs = ordered-runs }
