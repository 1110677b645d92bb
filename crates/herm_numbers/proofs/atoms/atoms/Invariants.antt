use Rattle.std.proofs.Common.{◌≡◌, map, take}
use Rattle.herm_syntax.specs.View.{atom_view}
use Rattle.herm_naming.specs.Numbers.{atom_number}
use Rattle.herm_typed.specs.View.{typed_atom_view}
use Rattle.herm_numbers.specs.View.{scope_view}
use Rattle.herm_typed.specs.Beside.{atom_types}
use Rattle.herm_numbers.specs.Beside.{types_among}
use Rattle.herm_numbers.proofs.atoms.atoms.Given as goal

abbrev pub invariant-list : goal.invariant-list
invariant-list l = record {
  meaning : map typed_atom_view l.found.items ≡ map (atom_number (scope_view l.scope)) (map atom_view (take l.a-index l.list));
  types : map atom_types l.found.items ≡ map (types_among (scope_view l.scope)) l.found.items;
}
