use Rattle.std.proofs.Common.{◌≡◌, drop}
use Rattle.herm_model.specs.Lists.{any_pass}
use Rattle.herm_system.specs.ProcessFates.{is_stopped}
use Rattle.herm_report.specs.View.{proc_ends_view}
use Rattle.herm_text.proofs.statuses.is_one_stopped.Given as goal

-- whether one of the rest is stopped is whether one of all is
abbrev pub invariant-loop-end : goal.invariant-loop-end
invariant-loop-end l = any_pass is_stopped (proc_ends_view (drop l.end-index l.ends)) ≡ any_pass is_stopped (proc_ends_view l.ends)
