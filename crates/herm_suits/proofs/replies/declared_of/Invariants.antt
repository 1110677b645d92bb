use Rattle.std.proofs.Common.{◌≡◌, map, drop}
use Rattle.herm_model.specs.Calls.{kept_for}
use Rattle.herm_types.specs.View.{raise_decl_view}
use Rattle.herm_suits.specs.Decided.{is_declared}
use Rattle.herm_suits.proofs.replies.declared_of.Given as goal

abbrev pub invariant-loop-raise : goal.invariant-loop-raise
invariant-loop-raise l = record {
  declared : is_declared (map raise_decl_view (drop l.raise-index l.raises)) l.exception.0 ≡ is_declared (map raise_decl_view l.raises) l.exception.0;
  kept : kept_for (map raise_decl_view (drop l.raise-index l.raises)) l.exception.0 ≡ kept_for (map raise_decl_view l.raises) l.exception.0;
}
