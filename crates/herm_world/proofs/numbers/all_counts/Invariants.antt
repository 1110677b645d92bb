use Rattle.std.proofs.Common.{List, ◌++◌, drop}
use Rattle.herm_gather.specs.declared.counting.ProcCounts.{ProcCounts}
use Rattle.herm_world.specs.Reported.{AreCountsOf}
use Rattle.herm_world.specs.Worlds.{AreAlike}
use Rattle.herm_world.proofs.numbers.all_counts.Given as goal

-- what there is so far, joined with what is alike to the rest, is alike to the whole
abbrev pub invariant-loop-process : goal.invariant-loop-process
invariant-loop-process l = (rest : List ProcCounts) → AreAlike AreCountsOf (drop l.process-index l.processes) rest → AreAlike AreCountsOf l.processes (l.counts.items ++ rest)
