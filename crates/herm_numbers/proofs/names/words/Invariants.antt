use Rattle.std.proofs.Common.{◌≡◌, take}
use Rattle.herm_numbers.proofs.names.words.Given as goal

-- What is found so far, with what is left, is all.
abbrev pub invariant-words : goal.invariant-words
invariant-words l = l.found.items ≡ take l.word-index l.list
