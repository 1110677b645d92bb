use Rattle.std.proofs.Common.{◌≡◌, ◌≤◌, ◌+◌, drop}
use Rattle.herm_system.specs.ProcessFates.{is_stopped}
use Rattle.herm_system.specs.Summary.{how_many}
use Rattle.herm_report.specs.View.{proc_ends_view}
use Rattle.herm_gather.proofs.ending.stopped.Given as goal

-- what is counted so far, with the rest, is the whole
abbrev pub invariant-loop-end : goal.invariant-loop-end
invariant-loop-end l = (l.count + how_many is_stopped (proc_ends_view (drop l.end-index l.ends)) ≡ how_many is_stopped (proc_ends_view l.ends)) × (l.count ≤ l.end-index)
