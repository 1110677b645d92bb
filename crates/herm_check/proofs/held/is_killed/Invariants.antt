use Rattle.std.proofs.Common.{◌≡◌, map, take, false}
use Rattle.herm_model.specs.Lists.{any_pass}
use Rattle.herm_model.specs.Paths.{is_at_or_below}
use Rattle.herm_types.specs.View.{path_view}
use Rattle.herm_check.proofs.held.is_killed.Given as goal

abbrev pub invariant-loop-killed : goal.invariant-loop-killed
invariant-loop-killed l = any_pass (λ p. is_at_or_below p (path_view l.path)) (map path_view (take l.killed-index l.kills)) ≡ false
