use Rattle.herm_readers.proofs.Marks.{leading_reads}
use Rattle.herm_readers.proofs.leading_is_read.Goals as goal

pub returns : goal.returns
returns g c = record { read = λ x test rule read is reads. leading_reads x test rule read is reads }
