use Rattle.std.proofs.Common.{◌≡◌, map, drop}
use Rattle.herm_model.specs.Lists.{any_pass}
use Rattle.herm_model.specs.Paths.{same_path}
use Rattle.herm_types.specs.View.{path_view}
use Rattle.herm_code.specs.View.{argument_view}
use Rattle.herm_exchanges.specs.Heard.{paths_at}
use Rattle.herm_exchanges.proofs.hearing.is_at.Given as goal

abbrev pub invariant-places : goal.invariant-places
invariant-places l = any_pass (same_path (path_view l.path)) (paths_at (map argument_view l.arguments) (drop l.place-index l.places)) ≡ any_pass (same_path (path_view l.path)) (paths_at (map argument_view l.arguments) l.places)
