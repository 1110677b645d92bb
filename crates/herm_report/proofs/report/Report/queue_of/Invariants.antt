use Rattle.std.proofs.Common.{◌≡◌, drop}
use Rattle.herm_report.specs.View.{numbered_queues, queue_at}
use Rattle.herm_report.proofs.report.Report.queue_of.Given as goal

-- the queues passed are not of this port
abbrev pub invariant-loop-number : goal.invariant-loop-number
invariant-loop-number l = queue_at l.port (numbered_queues (drop l.number-index l.number-items)) ≡ queue_at l.port (numbered_queues l.number-items)
