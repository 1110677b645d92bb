use Rattle.std.proofs.Common.{◌≡◌, ℕ, length}
use Rattle.herm_types.specs.Chosen.{lists}
use Rattle.herm_graph.specs.Graph.{IsNext}
use Rattle.herm_graph.proofs.hints.empty_lists.Given as goal

abbrev pub invariant-loop : goal.invariant-loop
invariant-loop l = record {
  none : (t u : ℕ) → IsNext (lists l.all.items) t u → ⊥;
  each : length l.all.items ≡ l.counter;
}
