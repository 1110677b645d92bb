use Rattle.herm_source.proofs.instance.SourceLaws.{source-keeps-numbers}
use Rattle.herm_source.proofs.machine.numbers_are_kept.Goals as goal

pub returns : goal.returns
returns c = record { numbers = source-keeps-numbers }
