-- What an action comes to, with the stack as it was before it.
use Rattle.std.specs.Prelude.{◌≡◌, List, Option, Some, None, ⊤}
use Rattle.herm_model.specs.Values.{Value}
use Rattle.herm_forms.specs.Frames.{Frame, goes, stuck}
use Rattle.herm_code_machine.specs.Stacks.{Effect, leaving}
use Rattle.herm_frames.specs.HeldFrames.{HeldFrame}
use Rattle.herm_frames.specs.Standing.{Stands}
use Rattle.herm_pieces.specs.View.{outcome_view}
use Rattle.herm_pieces.specs.declared.outcomes.Outcome.{Outcome}

-- It goes on with this outcome, the stack as it was, and a frame for which the code's stands; or it is stuck.
abbrev pub Settles : Option Outcome → HeldFrame → List Value → Effect ⊤ → Type 0
Settles None f stack e = e.completion ≡ stuck
Settles (Some o) f stack e = (b : Frame ⊤) × (e ≡ leaving stack (goes (outcome_view o) b)) × Stands f b
