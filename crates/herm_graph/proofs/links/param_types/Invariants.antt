use Rattle.std.proofs.Common.{◌≡◌, map, take}
use Rattle.herm_types.specs.View.{param_view}
use Rattle.herm_graph.proofs.links.param_types.Given as goal

abbrev pub invariant-loop-param : goal.invariant-loop-param
invariant-loop-param l = l.types.items ≡ map (λ p. p.content) (map param_view (take l.param-index l.params))
