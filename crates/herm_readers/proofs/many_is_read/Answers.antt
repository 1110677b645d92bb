use Rattle.herm_readers.proofs.Lists.{many_reads, many_unrolled}
use Rattle.herm_readers.proofs.many_is_read.Goals as goal

pub returns : goal.returns
returns g c = record {
  read = λ test item read written reads. many_reads test item read written reads;
  unrolls = λ test item read written reads. many_unrolled test item read written reads;
}
