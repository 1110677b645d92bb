use Rattle.herm_waking.proofs.EntriesGrow.{journals-grow, nothing-yet}
use Rattle.herm_waking.proofs.report.entries_grow_parts.Goals as goal

pub returns : goal.returns
returns g c = record { grow = journals-grow; nothing_yet = λ machine. nothing-yet machine }
