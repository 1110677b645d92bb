use Rattle.herm_typed.specs.View.{typed_process_view}
use Rattle.herm_accept.proofs.Finding.{many_checked, exact_checked, faultless_checked, fault_checked}
use Rattle.herm_accept.proofs.checked.check_process.Goals as goal

pub check-requires-clause-differ : goal.check-requires-clause-differ
check-requires-clause-differ c = c.in_ok-flow.ensures.differ

pub check-requires-clause-there : goal.check-requires-clause-there
check-requires-clause-there c = c.in_ok-flow.ensures.there

pub check-requires-clause-reached : goal.check-requires-clause-reached
check-requires-clause-reached c = c.in_ok-flow.ensures.reached

pub returns-clause-many : goal.returns-clause-many
returns-clause-many c = many_checked c.args.types.now.shapes (typed_process_view c.args.p.now) c.in_ok-flow.flow c.in_ok-flow.ensures c.check.result c.check.ensures.many

pub returns-clause-exact : goal.returns-clause-exact
returns-clause-exact c = exact_checked c.args.types.now.shapes (typed_process_view c.args.p.now) c.in_ok-flow.flow c.in_ok-flow.ensures c.check.result c.check.ensures.exact

pub returns-clause-accepted : goal.returns-clause-accepted
returns-clause-accepted c = faultless_checked c.args.types.now.shapes (typed_process_view c.args.p.now) c.in_ok-flow.flow c.in_ok-flow.ensures c.check.result c.check.ensures.accepted

pub returns-clause-missing : goal.returns-clause-missing
returns-clause-missing c = fault_checked c.args.types.now.shapes (typed_process_view c.args.p.now) c.in_ok-flow.flow c.in_ok-flow.ensures c.check.result c.check.ensures.missing
