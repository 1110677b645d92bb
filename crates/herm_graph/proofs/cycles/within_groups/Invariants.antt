use Rattle.std.proofs.Common.{◌≡◌, length}
use Rattle.herm_types.specs.Chosen.{lists}
use Rattle.herm_graph.specs.Graph.{AreInside}
use Rattle.herm_graph.proofs.cycles.within_groups.Given as goal

abbrev pub invariant-loop-t : goal.invariant-loop-t
invariant-loop-t l = record {
  each : length l.all.items ≡ l.t;
  inside : AreInside l.firsts (lists l.next) (lists l.all.items);
}
