use Rattle.std.proofs.Common.{◌≡◌, ◌++◌, map, drop}
use Rattle.herm_model.specs.Types.{filled}
use Rattle.herm_types.specs.View.{param_view}
use Rattle.herm_types.specs.Chosen.{part_seen}
use Rattle.herm_types.proofs.paths.filled_params.Given as goal

abbrev pub invariant-loop-place : goal.invariant-loop-place
invariant-loop-place l = map part_seen l.seen.items ++ filled l.place (map param_view (drop l.place l.params)) ≡ filled 0 (map param_view l.params)
