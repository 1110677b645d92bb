use Rattle.herm_checked.proofs.CheckedRuns.{checked-none}
use Rattle.herm_checked.proofs.checked_runs.no_process_is_stuck.Goals as goal

pub returns : goal.returns
returns c = record { none = checked-none }
