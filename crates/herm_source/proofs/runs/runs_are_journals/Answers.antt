use Rattle.herm_source.specs.Instance.{source}
use Rattle.herm_runs.proofs.RunsOrdered.{ordered-fits}
use Rattle.herm_source.proofs.instance.SourceLaws.{source-keeps-numbers}
use Rattle.herm_source.proofs.runs.runs_are_journals.Goals as goal

pub returns : goal.returns
returns c = record { fits = λ modules. ordered-fits (source modules) (source-keeps-numbers modules) }
