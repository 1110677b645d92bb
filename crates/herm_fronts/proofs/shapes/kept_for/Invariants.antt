use Rattle.std.proofs.Common.{◌≡◌, map, drop}
use Rattle.herm_model.specs.Calls.{kept_for}
use Rattle.herm_types.specs.View.{raise_decl_view}
use Rattle.herm_fronts.proofs.shapes.kept_for.Given as goal

-- What is kept by those that are left is kept by all.
abbrev pub invariant-raises : goal.invariant-raises
invariant-raises l = kept_for (map raise_decl_view (drop l.raise-index l.raises)) l.e.0 ≡ kept_for (map raise_decl_view l.raises) l.e.0
