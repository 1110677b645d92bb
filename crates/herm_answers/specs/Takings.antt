-- What is taken out of a process for an action, behind the operands of its piece.
use Rattle.std.specs.Prelude.{◌≡◌, ℕ, List, Option, Some, None, option_and_then, option_map, ⊤}
use Rattle.herm_model.specs.Values as model
use Rattle.herm_journal.specs.Messages.{CellReply}
use Rattle.herm_forms.specs.Callmessages.{Composed}
use Rattle.herm_forms.specs.Frames.{Taken}
use Rattle.herm_code_machine.specs.Stacks.{Popped, pop}
use Rattle.herm_exchanges.specs.Composed.{IsComposed}
use Rattle.herm_exchanges.specs.Worked.{IsTaken}
use Rattle.herm_frames.specs.HeldFrames.{HeldFrame}
use Rattle.herm_frames.specs.Standing.{Stands}
use Rattle.herm_values.specs.declared.value.Value.{Value}

-- There is a stack before the action, this is the callmessage that is composed with so many values of it, and the rest of it and
-- the frame behind are left; or there is none.
abbrev pub IsCallOut : Option Value → HeldFrame → (left : List model.Value) → (inputs : ℕ) → (before : Option (List model.Value)) → (List model.Value → Option (Composed ⊤)) → Type 0
IsCallOut None f left inputs before called = option_and_then called before ≡ None
IsCallOut (Some v) f left inputs before called =
    (stack : List model.Value) × (before ≡ Some stack) × (option_map (λ (p : Popped). p.rest) (pop inputs stack) ≡ Some left) × IsComposed (Some v) f (called stack)

-- There is a stack before the action, which is left, and these values are what is taken out; or there is none.
abbrev pub IsTakenOut : Option (List Value) → HeldFrame → (left : List model.Value) → (before : Option (List model.Value)) → Option (Taken ⊤) → Type 0
IsTakenOut None f left before taken = option_and_then (λ (stack : List model.Value). taken) before ≡ None
IsTakenOut (Some vs) f left before taken = (before ≡ Some left) × IsTaken (Some vs) f taken

-- The same of the reply that has what is taken out.
abbrev pub IsReplyOut : Option (CellReply ⊤) → HeldFrame → (left : List model.Value) → (before : Option (List model.Value)) → (List model.Value → CellReply ⊤) → Option (Taken ⊤) → Type 0
IsReplyOut None f left before reply taken = option_and_then (λ (stack : List model.Value). taken) before ≡ None
IsReplyOut (Some r) f left before reply taken = (before ≡ Some left) × (t : Taken ⊤) × (taken ≡ Some t) × (reply t.cells ≡ r) × Stands f t.frame
