use Rattle.std.proofs.Common.{◌≡◌, length}
use Rattle.herm_types.specs.Chosen.{lists}
use Rattle.herm_graph.specs.Graph.{AreReached}
use Rattle.herm_graph.proofs.graph.pass_in.Given as goal

abbrev pub invariant-loop-t : goal.invariant-loop-t
invariant-loop-t l = record {
  each : length l.found ≡ length l.next;
  reached : AreReached l.rule l.goal (lists l.next) l.fn.found → AreReached l.rule l.goal (lists l.next) l.found;
}
