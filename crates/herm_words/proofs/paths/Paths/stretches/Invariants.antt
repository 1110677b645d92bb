use Rattle.std.proofs.Common.{◌≡◌, ◌++◌, flat_map, reverse}
use Rattle.herm_model.specs.Lists.{list_of}
use Rattle.herm_words.specs.ToldWords.{trail_text, stretch_text}
use Rattle.herm_words.proofs.Stretched.{places_left}
use Rattle.herm_words.proofs.paths.Paths.stretches.Given as goal

abbrev pub invariant-loop-next : goal.invariant-loop-next
invariant-loop-next l = trail_text l.self l.place ≡ list_of (trail_text l.self) l.next ++ flat_map (stretch_text l.self) (reverse l.places.items)

abbrev pub decreases-loop-next : goal.decreases-loop-next
decreases-loop-next l = places_left l.next
