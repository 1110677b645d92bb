use Rattle.herm_report_laws.proofs.Described.{reports_describe}
use Rattle.herm_report_laws.proofs.laws.reports_describe_runs.Goals as goal

pub returns : goal.returns
returns c = record { describes = reports_describe }
