use Rattle.std.proofs.Common.{◌≡◌, ◌<◌, ℕ, true, length, map, slice_get}
use Rattle.herm_typed.specs.View.{typed_atom_view}
use Rattle.herm_effects.specs.Rows.{made_by}
use Rattle.herm_flow.specs.OnwardView.{facts_in}
use Rattle.herm_flow.specs.Listed.{is_marked}
use Rattle.herm_flow.proofs.called.made_by_arguments.Given as goal

-- The lists so far are those of the arguments so far.
abbrev pub invariant-each : goal.invariant-each
invariant-each l = record {
  end : l.i-end ≡ length l.arguments;
  many : length l.made.items ≡ l.i;
  made : (k : ℕ) → k < l.i → is_marked l.marks k ≡ true → facts_in l.made.items k ≡ made_by l.frame (slice_get (map typed_atom_view l.arguments) k);
}
