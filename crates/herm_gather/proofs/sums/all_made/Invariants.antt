use Rattle.std.proofs.Common.{◌≡◌, ◌≤◌, ◌+◌, ◌^◌, drop}
use Rattle.herm_system.specs.Summary.{cut}
use Rattle.herm_waking.specs.AddedCounts.{added}
use Rattle.herm_gather.specs.declared.counting.ProcCounts.{ProcCounts}
use Rattle.herm_gather.proofs.sums.all_made.Given as goal

-- what is added so far, with the rest, is the whole
abbrev pub invariant-loop-process : goal.invariant-loop-process
invariant-loop-process l = (cut (l.made + added (λ (x : ProcCounts). x.made) (drop l.process-index l.processes)) ≡ added (λ (x : ProcCounts). x.made) l.processes) × (l.made ≤ 2 ^ 63)
