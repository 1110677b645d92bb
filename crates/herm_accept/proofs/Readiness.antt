-- Control reaches each point of a typed process.
use Rattle.std.proofs.Common.{arith}
use Rattle.herm_model.specs.ControlPaths.{point, flow_of}
use Rattle.herm_model.specs.Nodes.{process_nodes}
use Rattle.herm_model.proofs.Lists.{length-map}
use Rattle.herm_meaning.specs.Names.{NamedTable}
use Rattle.herm_typed.specs.declared.statements.TypedProcess.{TypedProcess}
use Rattle.herm_typed.specs.View.{typed_process_view}
use Rattle.herm_flow.specs.Ready.{IsAllReached}
use Rattle.herm_accept.specs.Judged.{IsKnown}

pub all_reached : (types : NamedTable) (p : TypedProcess) → IsKnown types p → IsAllReached (flow_of types.shapes (typed_process_view p))
all_reached types p known i below =
    known.typed.reached i (omega (arith, below, length-map (point types.shapes (typed_process_view p).variables) (process_nodes (typed_process_view p))))
