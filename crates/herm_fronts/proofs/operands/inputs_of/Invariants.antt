use Rattle.std.proofs.Common.{◌≡◌, ◌++◌, map, drop}
use Rattle.herm_types.specs.View.{param_view}
use Rattle.herm_typed.specs.View.{typed_atom_view}
use Rattle.herm_fronts.specs.Forms.{input_operands}
use Rattle.herm_fronts.specs.View.{item_view}
use Rattle.herm_fronts.proofs.operands.inputs_of.Given as goal

abbrev pub invariant-params : goal.invariant-params
invariant-params l = map item_view l.out.items ++ input_operands (map param_view (drop l.param-index l.params)) (map typed_atom_view l.left) ≡ input_operands (map param_view l.params) (map typed_atom_view l.atoms)
