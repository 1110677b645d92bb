use Rattle.herm_waking.proofs.Added.{one-run-journal}
use Rattle.herm_waking.proofs.report.runs_have_one_journal.Goals as goal

pub returns : goal.returns
returns g c = record { journal = λ machine keeps. one-run-journal machine keeps }
