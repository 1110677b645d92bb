use Rattle.std.proofs.Common.{◌≡◌, map, drop}
use Rattle.herm_model.specs.Lists.{any_pass}
use Rattle.herm_model.specs.Paths.{is_at_or_below}
use Rattle.herm_types.specs.View.{path_view}
use Rattle.herm_blocks.proofs.handed.is_killed.Given as goal

abbrev pub invariant-kills : goal.invariant-kills
invariant-kills l = any_pass (λ p. is_at_or_below p (path_view l.path)) (map path_view (drop l.killed-index l.kills)) ≡ any_pass (λ p. is_at_or_below p (path_view l.path)) (map path_view l.kills)
