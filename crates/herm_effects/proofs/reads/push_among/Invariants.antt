use Rattle.std.proofs.Common.{◌≡◌, ◌++◌, map, drop}
use Rattle.herm_model.specs.Expressions.{paths_among}
use Rattle.herm_types.specs.View.{path_view}
use Rattle.herm_typed.specs.View.{typed_atom_view}
use Rattle.herm_effects.proofs.reads.push_among.Given as goal

-- What was pushed, with what is left, is the whole.
abbrev pub invariant-atoms : goal.invariant-atoms
invariant-atoms l = map path_view l.out.items ++ paths_among (map typed_atom_view (drop l.atom-index l.atoms)) ≡ map path_view l.fn.out.items ++ paths_among (map typed_atom_view l.atoms)
