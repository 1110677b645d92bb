use Rattle.herm_checked.proofs.CheckedRuns.{checked-runs, checked-along}
use Rattle.herm_checked.proofs.checked_runs.runs_are_sound.Goals as goal

pub returns : goal.returns
returns c = record { runs = checked-runs; along = checked-along }
