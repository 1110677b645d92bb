use Rattle.std.proofs.Common.{◌≡◌, map, flat_map, drop}
use Rattle.herm_fronts.specs.Operands.{literals_at}
use Rattle.herm_fronts.specs.Shared.{shared}
use Rattle.herm_fronts.specs.View.{item_view, key_view}
use Rattle.herm_fronts.proofs.constants.add_operands.Given as goal

abbrev pub invariant-items : goal.invariant-items
invariant-items l = shared (map key_view l.keys.keys) (flat_map literals_at (map item_view (drop l.item-index l.items))) ≡ shared (map key_view l.fn.keys.keys) (flat_map literals_at (map item_view l.items))
