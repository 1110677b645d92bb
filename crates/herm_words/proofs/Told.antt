-- What is told of a fact and of a search are the words of refusals.
use Rattle.std.proofs.Common.{◌++◌, ap₂}
use Rattle.herm_words.specs.laws.WordLaws.{RefusalsAreTold}

pub words-told : RefusalsAreTold
words-told types p fact visits lost paths head text number place = ap₂ (λ xs ys. xs ++ ys) head (text place)
