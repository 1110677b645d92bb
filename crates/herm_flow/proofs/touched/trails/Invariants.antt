use Rattle.std.proofs.Common.{◌≡◌, ◌<◌, ℕ, true, length, map, slice_get}
use Rattle.herm_typed.specs.View.{typed_atom_view}
use Rattle.herm_flow.specs.Listed.{is_marked}
use Rattle.herm_flow.specs.Touched.{AreOwn, IsTrailOf, number_by, numbers_at}
use Rattle.herm_flow.proofs.touched.trails.Given as goal

-- The lists so far are those of the arguments so far.
abbrev pub invariant-each : goal.invariant-each
invariant-each l = record {
  end : l.i-end ≡ length l.arguments;
  many : length l.found.items ≡ l.i;
  own : AreOwn l.paths.numbers l.paths.last;
  trails : (k : ℕ) → k < l.i → is_marked l.wanted k ≡ true → IsTrailOf (slice_get (map typed_atom_view l.arguments) k) (number_by l.paths.numbers) (numbers_at l.found.items k);
}
