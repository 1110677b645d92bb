use Rattle.herm_steps.proofs.SoundSteps.{steps-made}
use Rattle.herm_steps.proofs.sound_steps.sound_steps_are_made.Goals as goal

pub returns : goal.returns
returns c = record { made = steps-made }
