use Rattle.herm_syntax.proofs.Levels.{expression_reads}
use Rattle.herm_syntax.proofs.laws.expressions_are_read.Goals as goal

pub returns : goal.returns
returns c = record { read = expression_reads }
