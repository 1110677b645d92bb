use Rattle.std.proofs.Common.{◌≡◌, ◌++◌, map, drop}
use Rattle.herm_model.specs.Lists.{numbered}
use Rattle.herm_types.specs.View.{param_view}
use Rattle.herm_types.specs.Chosen.{part_seen}
use Rattle.herm_types.proofs.paths.numbered_params.Given as goal

abbrev pub invariant-loop-place : goal.invariant-loop-place
invariant-loop-place l = map part_seen l.seen.items ++ numbered l.place (map (λ p. p.content) (map param_view (drop l.place l.params))) ≡ numbered 0 (map (λ p. p.content) (map param_view l.params))
