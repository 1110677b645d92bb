use Rattle.herm_simulation.proofs.CodeReported.{code-reports_describe, code-runs_described}
use Rattle.herm_simulation.proofs.simulation.reports_of_code_describe_runs.Goals as goal

pub returns : goal.returns
returns c = record { runs = code-runs_described; reports = code-reports_describe }
