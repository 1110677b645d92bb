use Rattle.std.proofs.Common.{◌≡◌, ◌++◌, map, drop}
use Rattle.herm_types.specs.View.{param_view}
use Rattle.herm_typed.specs.View.{typed_atom_view}
use Rattle.herm_translated.specs.Fronts.{arguments_of}
use Rattle.herm_code.specs.View.{argument_view}
use Rattle.herm_fronts.proofs.calls.arguments_of.Given as goal

abbrev pub invariant-params : goal.invariant-params
invariant-params l = map argument_view l.found.items ++ arguments_of (map param_view (drop l.param-index l.params)) (map typed_atom_view l.left) ≡ arguments_of (map param_view l.params) (map typed_atom_view l.atoms)
