use Rattle.std.proofs.Common.{◌≡◌, ◌≤◌, ◌+◌, ◌^◌, ℕ, drop}
use Rattle.herm_system.specs.Summary.{cut}
use Rattle.herm_waking.specs.AddedCounts.{added}
use Rattle.herm_gather.proofs.sums.queued_as_replies.Given as goal

-- what is added so far, with the rest, is the whole
abbrev pub invariant-loop-cells : goal.invariant-loop-cells
invariant-loop-cells l = (cut (l.queued + added (λ (x : ℕ). x) (drop l.cells-index l.replies)) ≡ added (λ (x : ℕ). x) l.replies) × (l.queued ≤ 2 ^ 63)
