use Rattle.std.proofs.Common.{◌≡◌, ◌++◌, map, drop}
use Rattle.herm_types.specs.View.{path_view}
use Rattle.herm_fronts.proofs.paths.copy_paths.Given as goal

abbrev pub invariant-paths : goal.invariant-paths
invariant-paths l = map path_view l.copies.items ++ map path_view (drop l.path-index l.paths) ≡ map path_view l.paths
