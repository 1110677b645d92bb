use Rattle.std.proofs.Common.{◌≡◌, map}
use Rattle.herm_report.specs.View.{numbered_queues}
use Rattle.herm_world.specs.Reported.{left_queue, port_counts}
use Rattle.herm_world.proofs.numbers.left_at.Given as goal

abbrev pub invariant-loop-port : goal.invariant-loop-port
invariant-loop-port l = (numbered_queues l.queued.items ≡ map left_queue l.yielded) × (l.counts.items ≡ map port_counts l.yielded)
