use Rattle.herm_source.specs.Instance.{source}
use Rattle.herm_runs.proofs.Events.{rounds-run}
use Rattle.herm_source.proofs.runs.rounds_are_runs.Goals as goal

pub returns : goal.returns
returns c = record { runs = λ modules most. rounds-run most (source modules) }
