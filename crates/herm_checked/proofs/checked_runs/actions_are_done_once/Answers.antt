use Rattle.herm_checked.proofs.CheckedRuns.{checked-once}
use Rattle.herm_checked.proofs.checked_runs.actions_are_done_once.Goals as goal

pub returns : goal.returns
returns c = record { once = checked-once }
