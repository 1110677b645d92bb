use Rattle.herm_syntax.proofs.Files.{file_reads}
use Rattle.herm_syntax.proofs.laws.files_are_read.Goals as goal

pub returns : goal.returns
returns c = record { read = file_reads }
