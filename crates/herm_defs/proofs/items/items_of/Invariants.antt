use Rattle.std.proofs.Common.{◌≡◌, ◌++◌, map, drop}
use Rattle.herm_meaning.specs.Items.{items_from}
use Rattle.herm_defs.specs.Seen.{item_seen}
use Rattle.herm_defs.proofs.items.items_of.Given as goal

abbrev pub invariant-loop-number : goal.invariant-loop-number
invariant-loop-number l = map item_seen l.all.items ++ items_from l.number (drop l.number l.modules) ≡ items_from 0 l.modules
