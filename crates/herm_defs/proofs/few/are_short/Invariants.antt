use Rattle.std.proofs.Common.{map, take}
use Rattle.herm_defs.specs.Seen.{item_seen}
use Rattle.herm_defs.specs.Few.{AreFew}
use Rattle.herm_defs.proofs.few.are_short.Given as goal

abbrev pub invariant-loop-item : goal.invariant-loop-item
invariant-loop-item l = AreFew (map item_seen (take l.item-index l.items))
