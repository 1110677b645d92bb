use Rattle.herm_source.specs.Instance.{source}
use Rattle.herm_runs.proofs.Histories.{runs-told}
use Rattle.herm_source.proofs.runs.histories_tell.Goals as goal

pub returns : goal.returns
returns c = record { told = λ modules. runs-told (source modules) }
