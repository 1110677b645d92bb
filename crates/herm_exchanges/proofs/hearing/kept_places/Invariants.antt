use Rattle.std.proofs.Common.{◌≡◌, map, drop}
use Rattle.herm_model.specs.Calls.{kept_for}
use Rattle.herm_types.specs.View.{raise_decl_view}
use Rattle.herm_exchanges.proofs.hearing.kept_places.Given as goal

abbrev pub invariant-keeps : goal.invariant-keeps
invariant-keeps l = kept_for (map raise_decl_view (drop l.declared-index l.keeps)) l.e.0 ≡ kept_for (map raise_decl_view l.keeps) l.e.0
