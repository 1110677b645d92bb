use Rattle.std.proofs.Common.{◌≡◌, ◌++◌, map, drop}
use Rattle.herm_model.specs.Calls.{arguments_by}
use Rattle.herm_types.specs.View.{path_view, param_view}
use Rattle.herm_typed.specs.View.{typed_atom_view}
use Rattle.herm_effects.specs.Rows.{goes}
use Rattle.herm_effects.proofs.arguments.push_arguments.Given as goal

-- What was pushed, with what is left, is the whole.
abbrev pub invariant-params : goal.invariant-params
invariant-params l = map path_view l.out.items ++ arguments_by (goes l.way) (map param_view (drop l.param-index l.params)) (map typed_atom_view l.rest) ≡ map path_view l.fn.out.items ++ arguments_by (goes l.way) (map param_view l.params) (map typed_atom_view l.arguments)
