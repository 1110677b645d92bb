use Rattle.herm_lexer.proofs.FileLaws.{tokens_or_fault}
use Rattle.herm_lexer.proofs.laws.tokens_or_fault.Goals as goal

pub returns : goal.returns
returns c = tokens_or_fault
