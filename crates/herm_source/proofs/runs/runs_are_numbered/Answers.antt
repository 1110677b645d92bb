use Rattle.herm_source.specs.Instance.{source}
use Rattle.herm_runs.proofs.Numbered.{runs-numbered}
use Rattle.herm_source.proofs.instance.SourceLaws.{source-keeps-numbers}
use Rattle.herm_source.proofs.runs.runs_are_numbered.Goals as goal

pub returns : goal.returns
returns c = record { numbered = λ modules. runs-numbered (source modules) (source-keeps-numbers modules) }
