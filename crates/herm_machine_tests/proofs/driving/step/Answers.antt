use Rattle.std.proofs.Common.{sym}
use Rattle.herm_machine.specs.Machines.{nameless}
use Rattle.herm_machine_tests.proofs.Going.{alive-by, stepped, unwanted}
use Rattle.herm_machine_tests.proofs.driving.step.Goals as goal

pub local_step-requires-clause-unwanted : goal.local_step-requires-clause-unwanted
local_step-requires-clause-unwanted c image main s at = unwanted ((nameless image main).wanted s) (λ w e. c.in-None.ensures.there image main s w at e)

pub local_step-requires-clause-goes_on : goal.local_step-requires-clause-goes_on
local_step-requires-clause-goes_on c image main s at = sym (c.in-None-ended.ensures.end image main s at)

pub returns : goal.returns
returns c = record { going = stepped c.args.machine.now c.local_step.new.self c.requires.going (alive-by c.args.machine.now.is_dead c.in_ok-local_step.ensures.dead) c.in_ok-local_step.ensures.step }
