use Rattle.std.proofs.Common.{◌≡◌, ◌≤◌, ◌+◌, ◌^◌, drop}
use Rattle.herm_system.specs.Summary.{cut}
use Rattle.herm_waking.specs.AddedCounts.{added}
use Rattle.herm_gather.specs.declared.counting.PortCounts.{PortCounts}
use Rattle.herm_gather.proofs.sums.queued_at_ports.Given as goal

-- what is added so far, with the rest, is the whole
abbrev pub invariant-loop-port : goal.invariant-loop-port
invariant-loop-port l = (cut (l.queued + added (λ (x : PortCounts). x.cells) (drop l.port-index l.ports)) ≡ added (λ (x : PortCounts). x.cells) l.ports) × (l.queued ≤ 2 ^ 63)
