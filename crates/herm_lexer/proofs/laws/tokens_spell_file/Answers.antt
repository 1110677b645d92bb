use Rattle.herm_lexer.proofs.FileLaws.{tokens_spell_file}
use Rattle.herm_lexer.proofs.laws.tokens_spell_file.Goals as goal

pub returns : goal.returns
returns c = tokens_spell_file
