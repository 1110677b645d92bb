-- What the keys of tables are behind an instruction.
use Rattle.std.specs.Prelude.{◌≡◌, ℕ, List, Some}
use Rattle.herm_model.specs.Outcomes as model
use Rattle.herm_model.specs.Values.{Parts}
use Rattle.herm_places.specs.Held.{keyed_places}
use Rattle.herm_frames.specs.Completed.{outcome_view}
use Rattle.herm_frames.specs.HeldFrames.{HeldFrame}
use Rattle.herm_frames.specs.declared.outcome.Outcome.{Outcome}

-- Where it goes on, the variables are these, with the fields of each table's key. Language reference, "Tables".
abbrev pub LeavesKeyed : Outcome → HeldFrame → Parts (List ℕ) → Type 0
LeavesKeyed o f ps = (m : model.Outcome) → outcome_view o ≡ Some m → keyed_places f.variables ≡ ps
