use Rattle.std.proofs.Common.{subst}
use Rattle.herm_model.specs.ControlPaths.{flow_of}
use Rattle.herm_typed.specs.View.{typed_process_view}
use Rattle.herm_check.specs.Faults.{IsFault}
use Rattle.herm_accept.proofs.Arms.{judged_accepted, judged_refused}
use Rattle.herm_accept.proofs.accepting.judge.Goals as goal

pub returns-in_ok-add_accepted-in-Ok : goal.returns-in_ok-add_accepted-in-Ok
returns-in_ok-add_accepted-in-Ok c =
    judged_accepted c.args.types.now c.args.number c.args.p.now c.in_ok-flow-in-Ok.flow c.in-Ok.labels c.args.accepted.now _ c.args.lacks.now.items
    c.in_ok-flow-in-Ok.ensures c.in-Ok.ensures.many c.in-Ok.ensures.exact c.in-Ok.ensures.accepted c.in_ok-add_accepted-in-Ok.ensures

pub returns-in_ok-add_lacks-in-Err-Missing : goal.returns-in_ok-add_lacks-in-Err-Missing
returns-in_ok-add_lacks-in-Err-Missing c =
    let fault = subst (IsFault (flow_of c.args.types.now.shapes (typed_process_view c.args.p.now))) c.in-Err-Missing.field-0-is c.in-Err-Missing.ensures.missing in
    judged_refused c.args.types.now c.args.number c.args.p.now c.in-Err-Missing.all c.args.accepted.now c.args.lacks.now.items _
    fault.0 fault.2 c.in_ok-add_lacks-in-Err-Missing.ensures

pub add_lacks-requires : goal.add_lacks-requires
add_lacks-requires c = (subst (IsFault (flow_of c.args.types.now.shapes (typed_process_view c.args.p.now))) c.in-Err-Missing.field-0-is c.in-Err-Missing.ensures.missing).1
