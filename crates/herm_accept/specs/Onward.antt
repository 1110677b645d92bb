-- What the check asks of an onward flow of a process.
use Rattle.std.specs.Prelude.{ℕ, ◌<◌, length}
use Rattle.herm_model.specs.Lists.{IsIn}
use Rattle.herm_model.specs.Types.{TypeTable}
use Rattle.herm_model.specs.Statements.{Process}
use Rattle.herm_model.specs.Targets.{node}
use Rattle.herm_model.specs.ControlPaths as paths
use Rattle.herm_model.specs.ControlPaths.{flow_of, IsReached}
use Rattle.herm_model.specs.laws.FlowLaws.{EdgesDiffer, IsThere}
use Rattle.herm_flow.specs.declared.onward.OnwardFlow.{OnwardFlow}
use Rattle.herm_flow.specs.OnwardView.{onward_flow_view}
use Rattle.herm_flow.specs.Onward.{IsOnwardFlow}

-- The flow is an onward flow of the process. No outcome comes twice at a point of either, each edge leads to a point
-- that is there, and control reaches each point.
pub record IsOnwardReady (types : TypeTable) (p : Process) (f : OnwardFlow) : Type 0 where
  pub flow : IsOnwardFlow (flow_of types p) (onward_flow_view f)
  pub of_differ : EdgesDiffer (flow_of types p)
  pub differ : EdgesDiffer (onward_flow_view f)
  pub there : (q : paths.Point) (e : paths.Edge) → IsIn q (onward_flow_view f).points → IsIn e q.edges → IsThere (length (onward_flow_view f).points) e.target
  pub reached : (i : ℕ) → i < length f.points.items → IsReached (onward_flow_view f) (node i)
