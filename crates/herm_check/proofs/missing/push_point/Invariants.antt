use Rattle.std.proofs.Common.{map, take}
use Rattle.herm_types.specs.View.{fact_view}
use Rattle.herm_flow.specs.OnwardView.{onward_flow_view}
use Rattle.herm_check.specs.Missing.{IsAdded, demand}
use Rattle.herm_check.proofs.missing.push_point.Given as goal

abbrev pub invariant-loop-fact : goal.invariant-loop-fact
invariant-loop-fact l = IsAdded (onward_flow_view l.flow) l.lost (map (demand l.at l.point.stmt.0) (map fact_view (take l.fact-index l.fact-items))) l.initial.out l.out
