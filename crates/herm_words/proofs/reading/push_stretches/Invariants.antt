use Rattle.std.proofs.Common.{◌≡◌, ◌++◌, flat_map, drop}
use Rattle.herm_words.specs.ToldWords.{stretch_text}
use Rattle.herm_words.proofs.reading.push_stretches.Given as goal

abbrev pub invariant-loop-at : goal.invariant-loop-at
invariant-loop-at l = l.out.items ++ flat_map (stretch_text l.paths) (drop l.at-index l.places) ≡ l.fn.out.items ++ flat_map (stretch_text l.paths) l.places
