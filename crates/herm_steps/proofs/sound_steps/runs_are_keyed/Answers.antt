use Rattle.herm_steps.proofs.KeysThere.{runs-keyed}
use Rattle.herm_steps.proofs.sound_steps.runs_are_keyed.Goals as goal

pub returns : goal.returns
returns c = record { keyed = runs-keyed }
