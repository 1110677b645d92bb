use Rattle.herm_typed.specs.View.{typed_process_view}
use Rattle.herm_accept.proofs.OnwardReady.{onward_ready}
use Rattle.herm_accept.proofs.Readiness.{all_reached}
use Rattle.herm_accept.proofs.checked.onward.Goals as goal

pub onward_flow_of-requires : goal.onward_flow_of-requires
onward_flow_of-requires c = record { known = c.requires.known }

pub returns : goal.returns
returns c =
    let reached = all_reached c.args.types.now c.args.p.now c.requires in
    onward_ready c.args.types.now.shapes (typed_process_view c.args.p.now) c.in_ok-flow.flow (c.in_ok-flow.ensures.flow reached) c.requires.typed.blocks reached
