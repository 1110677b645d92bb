use Rattle.herm_source.specs.Instance.{source}
use Rattle.herm_runs.proofs.RoundsEnd.{rounds-final}
use Rattle.herm_source.proofs.instance.SourceLaws.{source-keeps-numbers}
use Rattle.herm_source.proofs.runs.rounds_are_final.Goals as goal

pub returns : goal.returns
returns c = record { final_ = λ modules. rounds-final (source modules) (source-keeps-numbers modules) }
