use Rattle.std.proofs.Common.{◌≡◌, map}
use Rattle.herm_model.specs.Lists.{range}
use Rattle.herm_model.specs.Outcomes.{arm}
use Rattle.herm_typed.specs.View.{outcome_view}
use Rattle.herm_typed.proofs.outcome_list.select_arms.Given as goal

abbrev pub invariant-loop-i : goal.invariant-loop-i
invariant-loop-i l = map outcome_view l.found.items ≡ map arm (range 0 l.i)
