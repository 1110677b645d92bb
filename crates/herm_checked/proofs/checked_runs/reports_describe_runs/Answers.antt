use Rattle.herm_checked.proofs.CheckedRuns.{checked-described, checked-reports}
use Rattle.herm_checked.proofs.checked_runs.reports_describe_runs.Goals as goal

pub returns : goal.returns
returns c = record { runs = checked-described; reports = checked-reports }
