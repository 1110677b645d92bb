use Rattle.herm_source.proofs.placed.PlacedSteps.{local-steps-keep-standing}
use Rattle.herm_source.proofs.places.local_steps_keep_standing.Goals as goal

pub returns : goal.returns
returns c = record { standing = local-steps-keep-standing }
