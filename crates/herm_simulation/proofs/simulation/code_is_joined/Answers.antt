use Rattle.herm_simulation.proofs.Nameless.{nameless-code-joined}
use Rattle.herm_simulation.proofs.Simulated.{code-is-joined}
use Rattle.herm_simulation.proofs.simulation.code_is_joined.Goals as goal

pub returns : goal.returns
returns c = record { named = code-is-joined; nameless = nameless-code-joined }
