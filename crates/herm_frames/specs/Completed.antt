-- What an instruction of the code comes to on a frame, in the words of the model.
use Rattle.std.specs.Prelude.{◌≡◌, List, Option, Some, None, ⊤}
use Rattle.herm_model.specs.Outcomes as model
use Rattle.herm_model.specs.Values.{Value}
use Rattle.herm_forms.specs.Frames.{Frame, Completion, goes, stuck}
use Rattle.herm_code_machine.specs.Stacks.{Effect}
use Rattle.herm_frames.specs.HeldFrames.{HeldFrame}
use Rattle.herm_frames.specs.Standing.{Stands}
use Rattle.herm_frames.specs.declared.outcome.Outcome.{Outcome}
use Rattle.herm_frames.specs.declared.outcome.Outcome.TheVariants as outcomes

-- the outcome, and none where the instruction is stuck
abbrev pub outcome_view : Outcome → Option model.Outcome
outcome_view outcomes.Next = Some model.ok
outcome_view outcomes.True = Some model.is_true
outcome_view outcomes.False = Some model.is_false
outcome_view outcomes.Turn = Some model.turn
outcome_view outcomes.Done = Some model.done
outcome_view (outcomes.Component k) = Some (model.component k)
outcome_view (outcomes.Raised e) = Some (model.raised e.0)
outcome_view outcomes.Stuck = None

-- It goes on with this outcome, and the frame of the code stands for the frame behind it; or it is stuck.
abbrev pub Completes : Option model.Outcome → HeldFrame → Completion ⊤ → Type 0
Completes None f c = c ≡ stuck
Completes (Some o) f c = (b : Frame ⊤) × (c ≡ goes o b) × Stands f b

-- The effect leaves this on the stack and completes so. Code reference, "Instructions".
abbrev pub Effects : Outcome → HeldFrame → List Value → Effect ⊤ → Type 0
Effects o f stack e = (e.stack ≡ stack) × Completes (outcome_view o) f e.completion
