use Rattle.std.proofs.Common.{◌≡◌, ◌++◌, map, drop}
use Rattle.herm_types.specs.View.{raise_decl_view}
use Rattle.herm_fronts.proofs.paths.copy_raises.Given as goal

abbrev pub invariant-raises : goal.invariant-raises
invariant-raises l = map raise_decl_view l.copies.items ++ map raise_decl_view (drop l.raise-index l.raises) ≡ map raise_decl_view l.raises
