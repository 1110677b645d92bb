use Rattle.std.proofs.Common.{◌≡◌, ◌≤◌, ◌+◌, ◌*◌, ◌^◌, drop}
use Rattle.herm_model.specs.Lists.{total}
use Rattle.herm_gather.specs.declared.counting.ProcCounts.{ProcCounts}
use Rattle.herm_gather.proofs.sums.actions.Given as goal

-- what is added so far, with the rest, is the whole; each number is below 2^32
abbrev pub invariant-loop-process : goal.invariant-loop-process
invariant-loop-process l = (l.actions + total (λ (p : ProcCounts). p.actions) (drop l.process-index l.processes) ≡ total (λ (p : ProcCounts). p.actions) l.processes) × (l.actions ≤ l.process-index * 2 ^ 32)
