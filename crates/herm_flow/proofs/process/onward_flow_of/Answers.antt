use Rattle.herm_typed.specs.View.{typed_process_view}
use Rattle.herm_flow.proofs.Ready.{onward_is}
use Rattle.herm_flow.proofs.process.onward_flow_of.Goals as goal

pub returns-clause-points : goal.returns-clause-points
returns-clause-points c = c.in_ok-points.ensures.points

pub returns-clause-flow : goal.returns-clause-flow
returns-clause-flow c = onward_is c.args.types.now.shapes (typed_process_view c.args.p.now) (record { points = c.in_ok-points.points.onward }) c.in_ok-points.ensures.points
