use Rattle.std.proofs.Common.{◌≡◌, true, map, take}
use Rattle.herm_model.specs.Lists.{IsIn}
use Rattle.herm_model.specs.Paths.{Path, init}
use Rattle.herm_model.specs.ControlPaths.{held_after_edge}
use Rattle.herm_types.specs.View.{path_view}
use Rattle.herm_flow.specs.View.{edge_view}
use Rattle.herm_coerce.proofs.coercions.are_held.Given as goal

abbrev pub invariant-loop-path : goal.invariant-loop-path
invariant-loop-path l = (x : Path) → IsIn x (map path_view (take l.path-index l.paths)) → held_after_edge (edge_view l.edge) (init x) true ≡ true
