use Rattle.herm_syntax.proofs.Computed.{expressions_hold, plain_hold, compound_hold, items_hold, files_hold, fitting_holds, words_hold}
use Rattle.herm_syntax.proofs.laws.examples_are_spelled.Goals as goal

pub returns : goal.returns
returns c = record { expressions = expressions_hold; plain = plain_hold; compound = compound_hold; items = items_hold; files = files_hold; fitting = fitting_holds; words = words_hold }
