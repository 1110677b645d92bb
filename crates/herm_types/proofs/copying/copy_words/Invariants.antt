use Rattle.std.proofs.Common.{◌≡◌, map, take}
use Rattle.herm_types.proofs.copying.copy_words.Given as goal

abbrev pub invariant-loop-word : goal.invariant-loop-word
invariant-loop-word l = l.copies.items ≡ take l.word-index l.words
