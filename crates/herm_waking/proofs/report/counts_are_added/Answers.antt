use Rattle.herm_waking.proofs.Added.{counts-added, sums-cut}
use Rattle.herm_waking.proofs.report.counts_are_added.Goals as goal

pub returns : goal.returns
returns g c = record { counts = λ machine. counts-added machine; sums = sums-cut }
