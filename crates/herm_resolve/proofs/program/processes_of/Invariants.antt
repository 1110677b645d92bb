use Rattle.herm_resolve.specs.Judged.{AreJudged}
use Rattle.herm_resolve.proofs.program.processes_of.Given as goal

abbrev pub invariant-modules : goal.invariant-modules
invariant-modules l = AreJudged l.known l.modules l.place l.found.items l.faults.items
