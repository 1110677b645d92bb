use Rattle.herm_syntax.proofs.Grammar.{statements_hold}
use Rattle.herm_syntax.proofs.laws.statements_are_read.Goals as goal

pub returns : goal.returns
returns c = record { read = statements_hold }
