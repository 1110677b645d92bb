use Rattle.herm_runs.specs.laws.ProcessLaws.{cells_alone}
use Rattle.herm_source.specs.Instance.{source}
use Rattle.herm_runs.proofs.order.OrderedRuns.{ordered-runs}
use Rattle.herm_source.proofs.instance.SourceLaws.{source-keeps-numbers, source-knows-places}
use Rattle.herm_source.proofs.runs.ordered_journals_are_runs.Goals as goal

pub returns : goal.returns
returns c = record { runs = λ modules. ordered-runs (source modules) cells_alone (source-keeps-numbers modules) (source-knows-places modules) }
