use Rattle.std.proofs.Common.{◌≡◌, ◌∷◌, map, take}
use Rattle.herm_model.specs.Outcomes.{ok, raised}
use Rattle.herm_typed.specs.View.{outcome_view}
use Rattle.herm_flow.proofs.calls.as_outcomes.Given as goal

abbrev pub invariant-numbers : goal.invariant-numbers
invariant-numbers l = map outcome_view l.found.items ≡ ok ∷ map raised (map (λ n. n.0) (take l.e-index l.numbers))
