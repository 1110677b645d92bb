use Rattle.std.proofs.Common.{refl}
use Rattle.herm_alphabet.specs.KeywordLetters.{keyword_of}
use Rattle.herm_naming.proofs.laws.processes_are_judged.Goals as goal

pub returns : goal.returns
unfolding keyword_of
returns c = record { first = refl; declarations = refl; nested = refl; main = (refl, refl, refl); limits = refl }
