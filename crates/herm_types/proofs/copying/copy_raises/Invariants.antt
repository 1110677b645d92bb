use Rattle.std.proofs.Common.{◌≡◌, map, take}
use Rattle.herm_types.specs.View.{raise_decl_view}
use Rattle.herm_types.proofs.copying.copy_raises.Given as goal

abbrev pub invariant-loop-raise : goal.invariant-loop-raise
invariant-loop-raise l = map raise_decl_view l.copies.items ≡ map raise_decl_view (take l.raise-index l.raises)
