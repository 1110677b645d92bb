use Rattle.std.proofs.Common.{◌≡◌, map, take}
use Rattle.herm_types.specs.View.{shape_view}
use Rattle.herm_types.specs.Chosen.{lists}
use Rattle.herm_graph.specs.Links.{path_types}
use Rattle.herm_graph.proofs.links.part_links.Given as goal

abbrev pub invariant-loop-shape : goal.invariant-loop-shape
invariant-loop-shape l = lists l.all.items ≡ map path_types (map shape_view (take l.shape-index l.shapes))
