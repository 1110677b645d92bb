use Rattle.herm_resolve.proofs.Judging.{all_known, all_refused}
use Rattle.herm_resolve.proofs.program.judged.Goals as goal

pub returns-clause-refusals : goal.returns-clause-refusals
returns-clause-refusals c = all_refused c.args.known.now c.args.modules.now c.requires.of c.in_ok-processes.processes.items c.processes_of.new.faults.items c.in_ok-processes.ensures.judged c.add_main.new.faults.items c.in_ok-add_main.ensures.added

pub returns-clause-of : goal.returns-clause-of
returns-clause-of c none = all_known c.args.known.now c.args.modules.now c.requires.of c.in_ok-processes.processes.items c.processes_of.new.faults.items c.in_ok-processes.ensures.judged c.add_main.new.faults.items _ c.in_ok-add_main.ensures.added none
