use Rattle.std.proofs.Common.{◌≡◌, ◌≤◌, ◌+◌, drop}
use Rattle.herm_system.specs.Summary.{how_many}
use Rattle.herm_gather.specs.declared.counting.PortCounts.{PortCounts}
use Rattle.herm_gather.proofs.sums.unclosed.Given as goal

-- what is counted so far, with the rest, is the whole
abbrev pub invariant-loop-port : goal.invariant-loop-port
invariant-loop-port l = (l.count + how_many (λ (p : PortCounts). p.is_open) (drop l.port-index l.ports) ≡ how_many (λ (p : PortCounts). p.is_open) l.ports) × (l.count ≤ l.port-index)
