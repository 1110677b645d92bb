use Rattle.std.proofs.Common.{List, ◌++◌, drop}
use Rattle.herm_report.specs.declared.report.ProcEnd.{ProcEnd}
use Rattle.herm_world.specs.Reported.{IsEndOf}
use Rattle.herm_world.specs.Worlds.{AreAlike}
use Rattle.herm_world.proofs.ends.ends_of.Given as goal

-- what there is so far, joined with what is alike to the rest, is alike to the whole
abbrev pub invariant-loop-process : goal.invariant-loop-process
invariant-loop-process l = (rest : List ProcEnd) → AreAlike IsEndOf (drop l.process-index l.processes) rest → AreAlike IsEndOf l.processes (l.ends.items ++ rest)
