use Rattle.std.proofs.Common.{◌≡◌, map, take}
use Rattle.herm_model.specs.Outcomes.{component}
use Rattle.herm_typed.specs.View.{outcome_view}
use Rattle.herm_typed.proofs.outcome_list.components.Given as goal

abbrev pub invariant-loop-c : goal.invariant-loop-c
invariant-loop-c g l = map outcome_view l.found.items ≡ map (λ a. component a.0) (take l.c-index l.arms)
