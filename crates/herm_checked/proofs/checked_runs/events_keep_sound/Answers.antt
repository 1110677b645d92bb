use Rattle.herm_checked.proofs.CheckedRuns.{checked-steps, checked-types, accepted-reach, checked-opening}
use Rattle.herm_checked.proofs.checked_runs.events_keep_sound.Goals as goal

pub returns : goal.returns
returns c = record { steps = checked-steps; types = checked-types; reached = accepted-reach; opening = checked-opening }
