use Rattle.std.proofs.Common.{◌≡◌, ◌-◌, ◌++◌, [], ◌∷◌, map, take}
use Rattle.herm_types.specs.Table.{shapes_view}
use Rattle.herm_types.specs.Chosen.{part_seen, onward, lists}
use Rattle.herm_types.proofs.paths.+walk.Given as goal

abbrev pub decreases-walk : goal.decreases-walk
decreases-walk l = l.depth

abbrev pub invariant-loop-part : goal.invariant-loop-part
invariant-loop-part l = record {
  at : l.at.items ≡ l.fn.at.items;
  out : lists l.out.items ≡ (lists l.fn.out.items ++ l.fn.at.items ∷ []) ++ onward l.choice (l.depth - 1) (shapes_view l.shapes) l.fn.at.items (map part_seen (take l.part-index l.part-items));
}
