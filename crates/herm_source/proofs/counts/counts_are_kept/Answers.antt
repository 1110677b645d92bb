use Rattle.herm_source.proofs.counted.CountedSteps.{typed-programs-keep-counts}
use Rattle.herm_source.proofs.counts.counts_are_kept.Goals as goal

pub returns : goal.returns
returns c = record { counts = typed-programs-keep-counts }
