use Rattle.std.proofs.Common.{map, take}
use Rattle.herm_model.specs.Lists.{IsIn}
use Rattle.herm_model.specs.Statements.{Differ}
use Rattle.herm_model.specs.ControlPaths.{Edge, Point}
use Rattle.herm_flow.specs.OnwardView.{onward_point_view}
use Rattle.herm_check.proofs.ready.all_differ.Given as goal

abbrev pub invariant-loop-point : goal.invariant-loop-point
invariant-loop-point l = (p : Point) → IsIn p (map onward_point_view (take l.point-index l.point-items)) → Differ (map (λ (e : Edge). e.outcome) p.edges)
