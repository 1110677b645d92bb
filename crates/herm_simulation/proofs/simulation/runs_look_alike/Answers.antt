use Rattle.herm_simulation.proofs.RunsAlike.{code-runs_as_source, source-runs_as_code, code-rounds_as_source, source-rounds_as_code}
use Rattle.herm_simulation.proofs.simulation.runs_look_alike.Goals as goal

pub returns : goal.returns
returns c = record { forth = code-runs_as_source; back = source-runs_as_code; rounds_forth = code-rounds_as_source; rounds_back = source-rounds_as_code }
