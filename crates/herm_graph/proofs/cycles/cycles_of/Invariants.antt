use Rattle.std.proofs.Common.{◌≡◌, length}
use Rattle.herm_types.specs.Table.{shapes_view}
use Rattle.herm_graph.specs.Met.{SayCyclesBelow}
use Rattle.herm_graph.proofs.cycles.cycles_of.Given as goal

abbrev pub invariant-loop-t : goal.invariant-loop-t
invariant-loop-t l = record {
  each : length l.cycles.items ≡ l.t;
  said : SayCyclesBelow l.t (shapes_view l.shapes) l.cycles.items;
}
