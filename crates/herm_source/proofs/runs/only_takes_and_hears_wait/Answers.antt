use Rattle.herm_runs.specs.laws.ProcessLaws.{cells_alone}
use Rattle.herm_source.specs.Instance.{source}
use Rattle.herm_runs.proofs.OnlyTakesWait.{only-takes-wait}
use Rattle.herm_source.proofs.instance.SourceLaws.{source-keeps-numbers, source-knows-places}
use Rattle.herm_source.proofs.runs.only_takes_and_hears_wait.Goals as goal

pub returns : goal.returns
returns c = record { wait = λ modules. only-takes-wait (source modules) cells_alone (source-keeps-numbers modules) (source-knows-places modules) }
