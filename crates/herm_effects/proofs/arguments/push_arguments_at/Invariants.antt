use Rattle.std.proofs.Common.{◌≡◌, ◌++◌, map, take, flat_map, slice_get}
use Rattle.herm_model.specs.Calls.{argument_path}
use Rattle.herm_types.specs.View.{path_view}
use Rattle.herm_typed.specs.View.{typed_atom_view}
use Rattle.herm_effects.proofs.arguments.push_arguments_at.Given as goal

abbrev pub invariant-loop-place : goal.invariant-loop-place
invariant-loop-place l = map path_view l.out.items ≡ map path_view l.fn.out.items ++ flat_map (λ i. argument_path (slice_get (map typed_atom_view l.arguments) i)) (take l.place-index l.places)
