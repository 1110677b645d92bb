use Rattle.std.proofs.Common.{◌<◌, take}
use Rattle.herm_model.specs.Lists.{IsIn}
use Rattle.herm_flow.specs.declared.onward.OnwardEdge.{OnwardEdge}
use Rattle.herm_check.proofs.ready.lead_there.Given as goal

abbrev pub invariant-loop-edge : goal.invariant-loop-edge
invariant-loop-edge l = (e : OnwardEdge) → IsIn e (take l.edge-index l.edges) → e.to < l.count
