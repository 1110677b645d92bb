use Rattle.herm_checked.proofs.CheckedRuns.{checked-suit, checked-runs-suit}
use Rattle.herm_checked.proofs.checked_runs.what_comes_in_suits.Goals as goal

pub returns : goal.returns
returns c = record { events = checked-suit; runs = checked-runs-suit }
