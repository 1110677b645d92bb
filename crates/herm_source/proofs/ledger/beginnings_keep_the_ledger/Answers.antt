use Rattle.herm_source.proofs.KeptSteps.{beginnings-keep}
use Rattle.herm_source.proofs.ledger.beginnings_keep_the_ledger.Goals as goal

pub returns : goal.returns
returns c = record { beginnings = beginnings-keep }
