-- What is left behind the front of a work list, of a call that waits, and of what is taken out to be given back.
use Rattle.std.specs.Prelude.{◌≡◌, List, map, Option, Some, None, ⊤}
use Rattle.herm_forms.specs.Frames.{Frame, Completion, stays, Taken}
use Rattle.herm_values.specs.View.{value_view}
use Rattle.herm_values.specs.declared.value.Value.{Value}
use Rattle.herm_frames.specs.HeldFrames.{HeldFrame}
use Rattle.herm_frames.specs.Standing.{Stands}

-- The process stays where it is, and the frame of the code stands for the frame behind.
abbrev pub Stays : HeldFrame → Completion ⊤ → Type 0
Stays f c = (b : Frame ⊤) × (c ≡ stays b) × Stands f b

-- These values are what is taken out, and the frame of the code stands for what is left; or nothing is taken out.
abbrev pub IsTaken : Option (List Value) → HeldFrame → Option (Taken ⊤) → Type 0
IsTaken None f t = t ≡ None
IsTaken (Some vs) f t = (b : Frame ⊤) × (t ≡ Some (record { cells = map value_view vs; frame = b })) × Stands f b
