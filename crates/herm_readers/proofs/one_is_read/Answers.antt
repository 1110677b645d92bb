use Rattle.herm_readers.proofs.Simple.{one_reads}
use Rattle.herm_readers.proofs.one_is_read.Goals as goal

pub returns : goal.returns
returns g c = record { read = λ fits symbol pick picks. one_reads fits symbol pick picks }
