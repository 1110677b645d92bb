-- The flow of a process is ready for the check.
use Rattle.std.proofs.Common.{◌≡◌, ℕ, ◌<◌, List, map, length, sym, ap, ap₂, ◌∙◌, subst}
use Rattle.herm_model.specs.Lists.{IsIn}
use Rattle.herm_model.proofs.Lists.{length-map}
use Rattle.herm_model.specs.Types.{TypeTable}
use Rattle.herm_model.specs.Statements.{Process, IsWellFormedBlock}
use Rattle.herm_model.specs.Targets.{Target, node}
use Rattle.herm_model.specs.Nodes.{process_nodes}
use Rattle.herm_model.specs.ControlPaths as paths
use Rattle.herm_model.specs.ControlPaths.{flow_of, point, IsReached}
use Rattle.herm_model.specs.laws.FlowLaws.{EdgesDiffer, IsThere, first_of}
use Rattle.herm_model.specs.TypedPrograms.{IsTypedProcess}
use Rattle.herm_model.proofs.FirstNode.{begins-first}
use Rattle.herm_model.proofs.NodePlaces.{edges-there}
use Rattle.herm_model.proofs.DifferentOutcomes.{process-EdgesDiffer}
use Rattle.herm_flow.specs.declared.flow.Flow.{Flow}
use Rattle.herm_flow.specs.View.{point_view, flow_view}
use Rattle.herm_flow.specs.declared.onward.OnwardFlow.{OnwardFlow}
use Rattle.herm_flow.specs.Onward.{AreOnward, IsOnwardFlow}
use Rattle.herm_flow.specs.OnwardView.{onward_point_view, onward_flow_view}
use Rattle.herm_flow.specs.Ready.{IsAllReached, IsReady}
use Rattle.herm_flow.proofs.KeptPoints.{onward-length}

abbrev a_flow : Target → List paths.Point → paths.Flow
a_flow entry points = record { entry = entry; points = points }

module _ (types : TypeTable) (p : Process) (f : Flow) (same : map point_view f.points.items ≡ (flow_of types p).points) where
  many : length f.points.items ≡ length (flow_of types p).points
  many = sym (length-map point_view f.points.items) ∙ ap (λ (ps : List paths.Point). length ps) same

  -- it begins where the process begins, if control reaches each point
  pub flow_is : IsAllReached (flow_of types p) → flow_view f ≡ flow_of types p
  flow_is reached = ap₂ (λ t ps. a_flow t ps) (ap first_of many ∙ sym (begins-first types p reached)) same

  pub flow_ready : IsWellFormedBlock p.body → IsAllReached (flow_of types p) → IsReady types p f
  flow_ready formed reached =
      let e = flow_is reached in
      record {
        flow = e;
        differ = subst (λ (flow : paths.Flow). EdgesDiffer flow) (sym e) (process-EdgesDiffer types p formed);
        there = subst (λ (flow : paths.Flow). (q : paths.Point) (d : paths.Edge) → IsIn q flow.points → IsIn d q.edges → IsThere (length flow.points) d.target) (sym e) (edges-there types p);
        reached = λ i h. subst (λ (flow : paths.Flow). IsReached flow (node i)) (sym e) (reached i (subst (λ n. i < n) many h));
      }

  -- so it is of a typed process
  pub typed_ready : (exceptions : ℕ) (processes : List Process) → IsTypedProcess exceptions types processes p → IsReady types p f
  typed_ready exceptions processes typed =
      flow_ready typed.blocks (λ i h. typed.reached i (subst (λ n. i < n) (length-map (point types p.variables) (process_nodes p)) h))

-- without covered edges it begins there too
pub onward_is : (types : TypeTable) (p : Process) (f : OnwardFlow) → AreOnward (flow_of types p).points (map onward_point_view f.points.items) → IsAllReached (flow_of types p) → IsOnwardFlow (flow_of types p) (onward_flow_view f)
onward_is types p f are reached = record {
  entry = ap first_of (sym (length-map onward_point_view f.points.items) ∙ onward-length (flow_of types p).points (map onward_point_view f.points.items) are) ∙ sym (begins-first types p reached);
  points = are;
}
