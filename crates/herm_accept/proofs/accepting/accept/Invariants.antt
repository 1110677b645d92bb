use Rattle.std.proofs.Common.{drop}
use Rattle.herm_accept.proofs.Judging.{GoesOn}
use Rattle.herm_accept.proofs.accepting.accept.Given as goal

abbrev pub invariant-processes : goal.invariant-processes
invariant-processes l = GoesOn l.types l.processes l.number (drop l.number l.processes) l.accepted l.lacks.items
