use Rattle.herm_lexer.proofs.Sources.{tokens_are_source}
use Rattle.herm_lexer.proofs.laws.tokens_are_source.Goals as goal

pub returns : goal.returns
returns c = tokens_are_source
