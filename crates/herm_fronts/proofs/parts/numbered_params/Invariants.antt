use Rattle.std.proofs.Common.{◌≡◌, ◌++◌, map, drop}
use Rattle.herm_model.specs.Lists.{numbered}
use Rattle.herm_types.specs.View.{param_view}
use Rattle.herm_fronts.specs.Held.{part_view}
use Rattle.herm_fronts.proofs.parts.numbered_params.Given as goal

abbrev pub invariant-params : goal.invariant-params
invariant-params l = map part_view l.found.items ++ numbered l.place (map (λ p. p.content) (map param_view (drop l.place l.params))) ≡ numbered 0 (map (λ p. p.content) (map param_view l.params))
