use Rattle.herm_readers.proofs.Separated.{separated_reads}
use Rattle.herm_readers.proofs.separated_is_read.Goals as goal

pub returns : goal.returns
returns g c = record { read = λ x test item read is reads. separated_reads x test item read is reads }
