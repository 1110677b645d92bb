-- An onward flow of a typed process is ready for the check.
use Rattle.std.proofs.Common.{◌≡◌, ◌<◌, length, sym, ◌∙◌, subst}
use Rattle.herm_model.proofs.Lists.{length-map}
use Rattle.herm_model.specs.Types.{TypeTable}
use Rattle.herm_model.specs.Statements.{Process, IsWellFormedBlock}
use Rattle.herm_model.specs.ControlPaths.{flow_of}
use Rattle.herm_model.proofs.NodePlaces.{edges-there}
use Rattle.herm_model.proofs.DifferentOutcomes.{process-EdgesDiffer}
use Rattle.herm_flow.specs.declared.onward.OnwardFlow.{OnwardFlow}
use Rattle.herm_flow.specs.OnwardView.{onward_point_view, onward_flow_view}
use Rattle.herm_flow.specs.Ready.{IsAllReached}
use Rattle.herm_flow.specs.Onward.{IsOnwardFlow}
use Rattle.herm_accept.specs.Onward.{IsOnwardReady}
use Rattle.herm_accept.proofs.OnwardPaths.{onward-many, differ-onward, there-onward, reached-onward}

-- an onward flow has as many points
pub points-many : (types : TypeTable) (p : Process) (f : OnwardFlow) → IsOnwardFlow (flow_of types p) (onward_flow_view f) → length f.points.items ≡ length (flow_of types p).points
points-many types p f is = sym (length-map onward_point_view f.points.items) ∙ onward-many (flow_of types p).points (onward_flow_view f).points is.points

pub onward_ready : (types : TypeTable) (p : Process) (f : OnwardFlow) → IsOnwardFlow (flow_of types p) (onward_flow_view f) → IsWellFormedBlock p.body → IsAllReached (flow_of types p) → IsOnwardReady types p f
onward_ready types p f is formed reached =
    let differ = process-EdgesDiffer types p formed in
    record {
      flow = is;
      of_differ = differ;
      differ = differ-onward (flow_of types p) (onward_flow_view f) is differ;
      there = there-onward (flow_of types p) (onward_flow_view f) is (edges-there types p);
      reached = λ i h. reached-onward (flow_of types p) (onward_flow_view f) is differ i (reached i (subst (λ n. i < n) (points-many types p f is) h));
    }
