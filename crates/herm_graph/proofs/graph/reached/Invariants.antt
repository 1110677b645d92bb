use Rattle.std.proofs.Common.{◌≡◌, length}
use Rattle.herm_types.specs.Chosen.{lists}
use Rattle.herm_graph.specs.Graph.{AreReached, missing}
use Rattle.herm_graph.proofs.graph.reached.Given as goal

abbrev pub invariant-passes : goal.invariant-passes
invariant-passes l = record {
  each : length l.found.items ≡ length l.next;
  reached : AreReached l.rule l.goal (lists l.next) l.found.items;
}

abbrev pub decreases-passes : goal.decreases-passes
decreases-passes l = missing l.found.items
