use Rattle.herm_process.proofs.Standings.{steps-everywhere}
use Rattle.herm_process.proofs.stepping.make_step.Goals as goal

pub local_step-requires-clause-unwanted : goal.local_step-requires-clause-unwanted
local_step-requires-clause-unwanted c image main s at = let r = c.requires.next in (steps-everywhere c.args.machine.now r.0 r.1 r.2 r.3 r.4 r.5 image main s at).0

pub local_step-requires-clause-goes_on : goal.local_step-requires-clause-goes_on
local_step-requires-clause-goes_on c image main s at = let r = c.requires.next in (steps-everywhere c.args.machine.now r.0 r.1 r.2 r.3 r.4 r.5 image main s at).1
