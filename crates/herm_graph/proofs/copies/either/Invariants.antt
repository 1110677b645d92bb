use Rattle.std.proofs.Common.{◌≡◌, ◌<◌, ◌||◌, ℕ, length}
use Rattle.herm_types.specs.Table.{says}
use Rattle.herm_graph.proofs.copies.either.Given as goal

abbrev pub invariant-loop-t : goal.invariant-loop-t
invariant-loop-t l = record {
  each : length l.tests.items ≡ l.t;
  said : (u : ℕ) → u < l.t → says l.tests.items u ≡ (says l.a u || says l.b u);
}
