use Rattle.std.proofs.Common.{◌≡◌, ◌-◌}
use Rattle.std.specs.Prelude.{⊤}
use Rattle.herm_forms.specs.Frames.{Frame, drop}
use Rattle.herm_frames.specs.EmptyPlaces.{variables_from}
use Rattle.herm_frames.specs.Standing.{Stands}
use Rattle.herm_frames.proofs.frame.Frame.drop_variables.Given as goal

abbrev pub invariant-variables : goal.invariant-variables
invariant-variables l = (s : Frame ⊤) → Stands l.initial.self s → (b : Frame ⊤) × Stands l.self b × (drop (variables_from l.i (l.n - l.i)) b ≡ drop (variables_from 0 l.n) s)
