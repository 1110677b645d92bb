use Rattle.herm_lexer.proofs.FileLaws.{one_token_list}
use Rattle.herm_lexer.proofs.laws.one_token_list.Goals as goal

pub returns : goal.returns
returns c = one_token_list
