use Rattle.std.proofs.Common.{◌≡◌, ◌++◌, map, take}
use Rattle.herm_defs.specs.Seen.{item_seen}
use Rattle.herm_defs.proofs.items.push_items.Given as goal

abbrev pub invariant-loop-item : goal.invariant-loop-item
invariant-loop-item l = map item_seen l.all.items ≡ map item_seen l.fn.all.items ++ map (λ item. (l.number, item)) (take l.item-index l.items)
