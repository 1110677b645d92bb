use Rattle.herm_source.proofs.KeptSteps.{local-steps-keep}
use Rattle.herm_source.proofs.ledger.local_steps_keep_the_ledger.Goals as goal

pub returns : goal.returns
returns c = record { local_steps = local-steps-keep }
