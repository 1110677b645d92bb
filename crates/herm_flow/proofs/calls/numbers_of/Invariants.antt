use Rattle.std.proofs.Common.{◌≤◌, ◌-◌, length, map}
use Rattle.herm_types.specs.View.{raise_decl_view}
use Rattle.herm_flow.specs.Touched.{numbers_at}
use Rattle.herm_flow.specs.NumberTables.{at_number, has_entry}
use Rattle.herm_flow.specs.CoveredExceptions.{touched_of}
use Rattle.herm_flow.proofs.Covering.{IsFoundTo}
use Rattle.herm_flow.proofs.calls.numbers_of.Given as goal

abbrev pub invariant-numbers : goal.invariant-numbers
invariant-numbers l = record {
  within : l.e ≤ length l.tables.declared.items;
  found : IsFoundTo (at_number l.tables.points.items) (touched_of (numbers_at l.tables.touches.numbers.items) l.tables.declared.items (map raise_decl_view l.raises)) l.tables.touches.single (has_entry l.tables.declared.items) l.e (map (λ n. n.0) l.found.numbers.items) l.found.heads.items;
}

abbrev pub decreases-numbers : goal.decreases-numbers
decreases-numbers l = length l.tables.declared.items - l.e
