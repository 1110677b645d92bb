use Rattle.herm_source.specs.Instance.{source}
use Rattle.herm_runs.proofs.Numbered.{numbered-once}
use Rattle.herm_source.proofs.runs.names_are_made_once.Goals as goal

pub returns : goal.returns
returns c = record { once = λ modules. numbered-once (source modules) }
