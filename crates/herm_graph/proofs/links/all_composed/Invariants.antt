use Rattle.std.proofs.Common.{◌≡◌, length, map, take}
use Rattle.herm_types.specs.View.{shape_view}
use Rattle.herm_types.specs.Chosen.{lists}
use Rattle.herm_graph.specs.Links.{composed_types}
use Rattle.herm_graph.proofs.links.all_composed.Given as goal

abbrev pub invariant-loop-shape : goal.invariant-loop-shape
invariant-loop-shape l = record {
  said : lists l.all.items ≡ map composed_types (map shape_view (take l.shape-index l.shapes));
  each : length l.all.items ≡ l.shape-index;
}
