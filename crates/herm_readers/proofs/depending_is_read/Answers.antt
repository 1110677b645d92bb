use Rattle.herm_readers.proofs.Sequences.{depending_reads}
use Rattle.herm_readers.proofs.depending_is_read.Goals as goal

pub returns : goal.returns
returns g c = record { read = λ first second read_first read_second reads_first reads_second. depending_reads first second read_first read_second reads_first reads_second }
