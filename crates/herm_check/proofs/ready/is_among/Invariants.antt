use Rattle.std.proofs.Common.{◌≡◌, map, take, false}
use Rattle.herm_model.specs.Lists.{any_pass}
use Rattle.herm_model.specs.Outcomes.{same_outcome}
use Rattle.herm_typed.specs.View.{outcome_view}
use Rattle.herm_flow.specs.declared.onward.OnwardEdge.{OnwardEdge as Edge}
use Rattle.herm_check.proofs.ready.is_among.Given as goal

abbrev pub invariant-loop-edge : goal.invariant-loop-edge
invariant-loop-edge l = any_pass (same_outcome (outcome_view l.outcome)) (map (λ (e : Edge). outcome_view e.outcome) (take l.edge-index l.edges)) ≡ false
