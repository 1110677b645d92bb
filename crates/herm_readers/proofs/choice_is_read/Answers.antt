use Rattle.herm_readers.proofs.Choices.{choice_reads}
use Rattle.herm_readers.proofs.choice_is_read.Goals as goal

pub returns : goal.returns
returns g c = record { read = λ test first second read_first read_second reads_first reads_second. choice_reads test first second read_first read_second reads_first reads_second }
