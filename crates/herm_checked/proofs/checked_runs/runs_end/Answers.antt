use Rattle.herm_checked.proofs.CheckedRuns.{checked-end}
use Rattle.herm_checked.proofs.checked_runs.runs_end.Goals as goal

pub returns : goal.returns
returns c = record { end = checked-end }
