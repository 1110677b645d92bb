use Rattle.herm_exchanges.specs.Told.{want_view}
use Rattle.herm_machine.specs.Machines.{code_of, nameless}
use Rattle.herm_process.proofs.SomePort.{never-untold}
use Rattle.herm_process.proofs.Standings.{at-sound, told-want}
use Rattle.herm_process.proofs.next.next_action.Goals as goal

pub returns-in-Some : goal.returns-in-Some
returns-in-Some c = record {
  next = λ image main limit s w at stands wanted. let v = told-want ((nameless image main).wanted s) (want_view c.in-Some.want) (c.in-Some.ensures.wanted image main s at) in (stands, v.0, v.1, v.2);
}

pub returns-in-None : goal.returns-in-None
returns-in-None c = record { next = λ image main limit s w at stands wanted. never-untold image main (code_of c.args.machine.now) s w (at-sound image main c.args.machine.now s at) (c.in-None.ensures.wanted image main s at) wanted }
