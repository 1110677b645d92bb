use Rattle.std.proofs.Common.{◌≡◌, ◌++◌, map, drop}
use Rattle.herm_typed.specs.View.{typed_atom_view}
use Rattle.herm_fronts.specs.Forms.{atom_operand}
use Rattle.herm_fronts.specs.View.{item_view}
use Rattle.herm_fronts.proofs.operands.keys_of.Given as goal

abbrev pub invariant-keys : goal.invariant-keys
invariant-keys l = map item_view l.out.items ++ map atom_operand (map typed_atom_view (drop l.key-index l.keys)) ≡ map atom_operand (map typed_atom_view l.keys)
