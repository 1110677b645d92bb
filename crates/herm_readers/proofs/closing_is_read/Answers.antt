use Rattle.herm_readers.proofs.Marks.{closing_reads}
use Rattle.herm_readers.proofs.closing_is_read.Goals as goal

pub returns : goal.returns
returns g c = record { read = λ x test rule read is reads. closing_reads x test rule read is reads }
