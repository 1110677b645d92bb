use Rattle.std.proofs.Common.{map, drop}
use Rattle.herm_model.specs.Statements.{Differ}
use Rattle.herm_typed.specs.View.{outcome_view}
use Rattle.herm_flow.specs.declared.onward.OnwardEdge.{OnwardEdge}
use Rattle.herm_check.proofs.ready.differ.Given as goal

abbrev pub invariant-loop-i : goal.invariant-loop-i
invariant-loop-i l = Differ (map (λ (e : OnwardEdge). outcome_view e.outcome) (drop l.i l.edges)) → Differ (map (λ (e : OnwardEdge). outcome_view e.outcome) l.edges)
