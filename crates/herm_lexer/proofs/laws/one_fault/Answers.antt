use Rattle.herm_lexer.proofs.FileLaws.{one_fault}
use Rattle.herm_lexer.proofs.laws.one_fault.Goals as goal

pub returns : goal.returns
returns c = one_fault
