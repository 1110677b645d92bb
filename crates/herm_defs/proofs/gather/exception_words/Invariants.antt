use Rattle.std.proofs.Common.{◌≡◌, ◌++◌, map, take}
use Rattle.herm_meaning.specs.Items.{exceptions_in}
use Rattle.herm_defs.specs.Seen.{item_seen}
use Rattle.herm_defs.proofs.gather.exception_words.Given as goal

abbrev pub invariant-loop-item : goal.invariant-loop-item
invariant-loop-item l = l.words.items ≡ l.initial.words.items ++ exceptions_in (map item_seen (take l.item-index l.items))
