use Rattle.std.proofs.Common.{◌≡◌, ◌⊎◌, ℕ, true, length, map, drop, Some}
use Rattle.herm_model.specs.Lists.{IsIn}
use Rattle.herm_model.specs.Types.{Raised}
use Rattle.herm_types.specs.View.{raise_decl_view}
use Rattle.herm_flow.specs.Listed.{is_marked}
use Rattle.herm_flow.specs.NumberTables.{at_number}
use Rattle.herm_flow.proofs.touched.wanted_of.Given as goal

-- What exceptions keep that are not left is marked.
abbrev pub invariant-each : goal.invariant-each
invariant-each l = record {
  many : length l.marks.items ≡ l.count;
  wanted : (r : Raised) (k p : ℕ) → IsIn r (map raise_decl_view l.raises) → at_number l.points r.exception ≡ Some p → IsIn k r.kept → (is_marked l.marks.items k ≡ true) ⊎ IsIn r (map raise_decl_view (drop l.raise-index l.raises));
}
