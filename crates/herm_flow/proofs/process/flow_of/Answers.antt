use Rattle.herm_typed.specs.View.{typed_process_view}
use Rattle.herm_flow.proofs.Ready.{flow_is, flow_ready}
use Rattle.herm_flow.proofs.process.flow_of.Goals as goal

pub returns-clause-points : goal.returns-clause-points
returns-clause-points c = c.in_ok-points.ensures.points

pub returns-clause-flow : goal.returns-clause-flow
returns-clause-flow c = flow_is c.args.types.now.shapes (typed_process_view c.args.p.now) (record { points = c.in_ok-points.points.whole }) c.in_ok-points.ensures.points

pub returns-clause-ready : goal.returns-clause-ready
returns-clause-ready c = flow_ready c.args.types.now.shapes (typed_process_view c.args.p.now) (record { points = c.in_ok-points.points.whole }) c.in_ok-points.ensures.points
