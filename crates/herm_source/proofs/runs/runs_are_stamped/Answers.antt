use Rattle.herm_source.specs.Instance.{source}
use Rattle.herm_runs.proofs.Events.{run-stamped}
use Rattle.herm_source.proofs.runs.runs_are_stamped.Goals as goal

pub returns : goal.returns
returns c = record { stamped = λ modules. run-stamped (source modules) }
