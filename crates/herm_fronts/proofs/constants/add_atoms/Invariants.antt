use Rattle.std.proofs.Common.{◌≡◌, map, drop}
use Rattle.herm_translated.specs.Constants.{literals_among}
use Rattle.herm_typed.specs.View.{typed_atom_view}
use Rattle.herm_fronts.specs.Shared.{shared}
use Rattle.herm_fronts.specs.View.{key_view}
use Rattle.herm_fronts.proofs.constants.add_atoms.Given as goal

abbrev pub invariant-atoms : goal.invariant-atoms
invariant-atoms l = shared (map key_view l.keys.keys) (literals_among (map typed_atom_view (drop l.atom-index l.atoms))) ≡ shared (map key_view l.fn.keys.keys) (literals_among (map typed_atom_view l.atoms))
