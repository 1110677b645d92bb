use Rattle.herm_runs.proofs.Numbered.{numbered-once}
use Rattle.herm_runs.proofs.runs.names_are_made_once.Goals as goal

pub returns : goal.returns
returns g c = record { once = numbered-once }
