use Rattle.std.proofs.Common.{length}
use Rattle.herm_driver.proofs.loading.+answer_over.Given as goal

abbrev pub decreases-answer_over : goal.decreases-answer_over
decreases-answer_over g l = length l.names.now
