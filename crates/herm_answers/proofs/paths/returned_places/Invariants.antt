use Rattle.std.proofs.Common.{◌≡◌, ◌++◌, map, drop}
use Rattle.herm_model.specs.Calls.{returned_places}
use Rattle.herm_types.specs.View.{param_view}
use Rattle.herm_answers.proofs.paths.returned_places.Given as goal

-- What was found, with what is left, is the whole.
abbrev pub invariant-loop-i : goal.invariant-loop-i
invariant-loop-i l = l.found.items ++ returned_places l.i (map param_view (drop l.i l.params)) ≡ returned_places 0 (map param_view l.params)
