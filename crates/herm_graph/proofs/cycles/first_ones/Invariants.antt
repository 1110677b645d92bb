use Rattle.std.proofs.Common.{◌≡◌, ◌<◌, nat_eq, ℕ, length}
use Rattle.herm_types.specs.Table.{says}
use Rattle.herm_graph.specs.Graph.{number_at}
use Rattle.herm_graph.proofs.cycles.first_ones.Given as goal

abbrev pub invariant-loop-t : goal.invariant-loop-t
invariant-loop-t l = record {
  each : length l.tests.items ≡ l.t;
  said : (u : ℕ) → u < l.t → says l.tests.items u ≡ nat_eq (number_at l.firsts u) u;
}
