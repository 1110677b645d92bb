use Rattle.herm_source.proofs.KeptSteps.{answers-keep}
use Rattle.herm_source.proofs.ledger.answers_keep_the_ledger.Goals as goal

pub returns : goal.returns
returns c = record { answers = answers-keep }
