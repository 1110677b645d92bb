use Rattle.herm_lexer.proofs.FileLaws.{tokens_else_fault}
use Rattle.herm_lexer.proofs.laws.tokens_else_fault.Goals as goal

pub returns : goal.returns
returns c = tokens_else_fault
