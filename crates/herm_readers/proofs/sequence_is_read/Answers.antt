use Rattle.herm_readers.proofs.Sequences.{sequence_reads}
use Rattle.herm_readers.proofs.sequence_is_read.Goals as goal

pub returns : goal.returns
returns g c = record { read = λ first second read_first read_second reads_first reads_second. sequence_reads first second read_first read_second reads_first reads_second }
