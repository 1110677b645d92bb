use Rattle.herm_source.proofs.instance.SourceLaws.{source-keeps-ledger}
use Rattle.herm_source.proofs.machine.the_ledger_is_kept.Goals as goal

pub returns : goal.returns
returns c = record { ledger = source-keeps-ledger }
