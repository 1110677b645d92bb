use Rattle.std.proofs.Common.{◌≡◌, ◌+◌, map, drop}
use Rattle.herm_typed.specs.View.{typed_process_view}
use Rattle.herm_sizes.specs.AcceptedLines.{statements_in}
use Rattle.herm_sizes.proofs.counts.count_processes.Given as goal

abbrev pub invariant-processes : goal.invariant-processes
invariant-processes l = l.count + statements_in (map typed_process_view (drop l.p-index l.processes)) ≡ statements_in (map typed_process_view l.processes)
