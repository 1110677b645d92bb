use Rattle.std.proofs.Common.{◌≡◌, true, map, filter}
use Rattle.herm_model.specs.Paths.{init}
use Rattle.herm_model.specs.ControlPaths.{held_after_edge}
use Rattle.herm_types.specs.View.{path_view}
use Rattle.herm_flow.specs.View.{edge_view}
use Rattle.herm_coerce.proofs.coercions.held_behind.Given as goal

abbrev pub invariant-loop-path : goal.invariant-loop-path
invariant-loop-path l = map path_view l.out.items ≡ filter (λ p. held_after_edge (edge_view l.edge) (init p) true) (map path_view l.yielded)
