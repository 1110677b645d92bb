use Rattle.herm_words.proofs.Told.{words-told}
use Rattle.herm_words.proofs.laws.refusals_are_told.Goals as goal

pub returns : goal.returns
returns c = words-told
