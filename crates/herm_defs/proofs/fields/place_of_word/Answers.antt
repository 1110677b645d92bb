use Rattle.std.proofs.Common.{sym, ◌∙◌}
use Rattle.herm_defs.proofs.Stepping.{word-some, word-none}
use Rattle.herm_defs.proofs.fields.place_of_word.Goals as goal

pub returns-in-Some : goal.returns-in-Some
returns-in-Some c = word-some c.args.words.now c.args.name.now _ (sym c.in-Some.is ∙ c.find_word.ensures)

pub returns-in-None : goal.returns-in-None
returns-in-None c = word-none c.args.words.now c.args.name.now (sym c.in-None.is ∙ c.find_word.ensures)
