use Rattle.std.proofs.Common.{drop}
use Rattle.herm_accept.proofs.Searching.{FindsOn}
use Rattle.herm_accept.proofs.lacks.lacks_of.Given as goal

abbrev pub invariant-processes : goal.invariant-processes
invariant-processes l = FindsOn l.types l.processes l.number (drop l.number l.processes) l.lacks.items
