use Rattle.std.proofs.Common.{◌≡◌, length}
use Rattle.herm_types.specs.Chosen.{lists}
use Rattle.herm_graph.specs.Graph.{AreReversed}
use Rattle.herm_graph.proofs.hints.reversed.Given as goal

abbrev pub invariant-loop-t : goal.invariant-loop-t
invariant-loop-t l = record {
  reversed : AreReversed (lists l.next) (lists l.before.items);
  each : length l.before.items ≡ length l.next;
}
