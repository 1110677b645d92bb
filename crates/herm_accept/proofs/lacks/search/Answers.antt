use Rattle.std.proofs.Common.{subst}
use Rattle.herm_model.specs.ControlPaths.{flow_of}
use Rattle.herm_typed.specs.View.{typed_process_view}
use Rattle.herm_check.specs.Faults.{IsFault}
use Rattle.herm_accept.proofs.Searching.{searched_accepted, searched_refused}
use Rattle.herm_accept.proofs.lacks.search.Goals as goal

pub returns-in-Ok : goal.returns-in-Ok
returns-in-Ok c = searched_accepted c.args.types.now c.args.number c.args.p.now c.args.lacks.now.items c.in-Ok.ensures.accepted

pub returns-in-Err-Missing : goal.returns-in-Err-Missing
returns-in-Err-Missing c =
    let fault = subst (IsFault (flow_of c.args.types.now.shapes (typed_process_view c.args.p.now))) c.in-Err-Missing.field-0-is c.in-Err-Missing.ensures.missing in
    searched_refused c.args.types.now c.args.number c.args.p.now c.in-Err-Missing.all c.args.lacks.now.items _
    fault.2 c.in_ok-add_lacks-in-Err-Missing.ensures

pub add_lacks-requires : goal.add_lacks-requires
add_lacks-requires c = (subst (IsFault (flow_of c.args.types.now.shapes (typed_process_view c.args.p.now))) c.in-Err-Missing.field-0-is c.in-Err-Missing.ensures.missing).1
