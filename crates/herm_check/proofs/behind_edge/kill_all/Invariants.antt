use Rattle.std.proofs.Common.{◌≡◌, false, cond, map, take}
use Rattle.herm_model.specs.Lists.{any_pass}
use Rattle.herm_model.specs.Paths.{Fact, path_of, is_at_or_below}
use Rattle.herm_types.specs.View.{path_view}
use Rattle.herm_typestate.specs.Facts.{has_fact}
use Rattle.herm_check.proofs.behind_edge.kill_all.Given as goal

abbrev pub invariant-loop-path : goal.invariant-loop-path
invariant-loop-path l = (f : Fact) → has_fact l.state f ≡ cond (any_pass (λ p. is_at_or_below p (path_of f)) (map path_view (take l.path-index l.kills))) false (has_fact l.initial.state f)
