use Rattle.herm_runs.specs.examples.Countdowns.{as_named}
use Rattle.herm_journal.specs.Renaming.{forget_name}
use Rattle.herm_runs.proofs.joined.CountdownsJoined.{counts-joined}
use Rattle.herm_runs.proofs.joining.countdowns_are_joined.Goals as goal

pub returns : goal.returns
returns c = record { named = counts-joined as_named; nameless = counts-joined forget_name }
