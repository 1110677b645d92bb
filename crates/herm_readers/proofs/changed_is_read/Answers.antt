use Rattle.herm_readers.proofs.Simple.{changed_reads}
use Rattle.herm_readers.proofs.changed_is_read.Goals as goal

pub returns : goal.returns
returns g c = record { read = λ change from to read changes reads. changed_reads change from to read changes reads }
