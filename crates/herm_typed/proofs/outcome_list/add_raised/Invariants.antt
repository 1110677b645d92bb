use Rattle.std.proofs.Common.{◌≡◌, ◌++◌, map, take}
use Rattle.herm_model.specs.Outcomes.{raised}
use Rattle.herm_typed.specs.View.{outcome_view}
use Rattle.herm_typed.proofs.outcome_list.add_raised.Given as goal

abbrev pub invariant-numbers : goal.invariant-numbers
invariant-numbers l = map outcome_view l.found.items ≡ map outcome_view l.initial.found.items ++ map (λ n. raised n.0) (take l.e-index l.numbers)
