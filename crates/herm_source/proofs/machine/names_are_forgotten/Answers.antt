use Rattle.herm_source.proofs.instance.SourceForgets.{source-forgets-names}
use Rattle.herm_source.proofs.machine.names_are_forgotten.Goals as goal

pub returns : goal.returns
returns c = record { names = source-forgets-names }
