use Rattle.herm_alphabet.proofs.Keywords.{found_letters, no_letters}
use Rattle.herm_alphabet.proofs.keyword.Keyword.from_letters.Goals as goal

pub returns-clause-some : goal.returns-clause-some
returns-clause-some c = found_letters c.args.text.now c.find_keyword.result c.find_keyword.ensures

pub returns-clause-none : goal.returns-clause-none
returns-clause-none c = no_letters c.args.text.now c.find_keyword.result c.find_keyword.ensures
