use Rattle.std.proofs.Common.{◌≡◌, ◌++◌, map, take}
use Rattle.herm_meaning.specs.Items.{types_in}
use Rattle.herm_defs.specs.Seen.{item_seen}
use Rattle.herm_defs.proofs.gather.type_words.Given as goal

abbrev pub invariant-loop-item : goal.invariant-loop-item
invariant-loop-item l = l.words.items ≡ l.initial.words.items ++ map (λ d. d.0) (types_in (map item_seen (take l.item-index l.items)))
