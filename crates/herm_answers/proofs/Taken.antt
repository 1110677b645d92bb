-- What was taken out behind the operands of a piece.
use Rattle.std.proofs.Common.{◌≡◌, ℕ, List, map, Option, Some, None, option_map, refl, ap, ◌∙◌}
use Rattle.std.specs.Prelude.{IfSome, option_and_then, ⊤}
use Rattle.herm_model.specs.Values as model
use Rattle.herm_journal.specs.Messages.{CellReply}
use Rattle.herm_forms.specs.Callmessages.{Composed}
use Rattle.herm_forms.specs.Frames.{Taken}
use Rattle.herm_code_machine.specs.Stacks.{Popped, pop}
use Rattle.herm_exchanges.specs.Composed.{IsComposed}
use Rattle.herm_exchanges.specs.Worked.{IsTaken}
use Rattle.herm_frames.specs.HeldFrames.{HeldFrame}
use Rattle.herm_values.specs.View.{value_view}
use Rattle.herm_values.specs.declared.value.Value.{Value}
use Rattle.herm_answers.specs.Takings.{IsCallOut, IsReplyOut, IsTakenOut}

pub call_out : (r : Option Value) (f : HeldFrame) (left : List model.Value) (n : ℕ) (before : Option (List model.Value)) (called : List model.Value → Option (Composed ⊤)) (stack : List model.Value) → before ≡ Some stack
    → IfSome r (λ v. option_map (λ (p : Popped). p.rest) (pop n stack) ≡ Some left) → IsComposed r f (called stack) → IsCallOut r f left n before called
call_out None f left n before called stack there rest composed = ap (option_and_then called) there ∙ composed
call_out (Some v) f left n before called stack there rest composed = (stack, there, rest, composed)

pub taken_out : (r : Option (List Value)) (f : HeldFrame) (left : List model.Value) (before : Option (List model.Value)) (taken : Option (Taken ⊤)) → before ≡ Some left → IsTaken r f taken → IsTakenOut r f left before taken
taken_out None f left before taken there is = ap (option_and_then (λ (stack : List model.Value). taken)) there ∙ is
taken_out (Some vs) f left before taken there is = (there, is)

pub reply_out : (vs : List Value) (f : HeldFrame) (left : List model.Value) (before : Option (List model.Value)) (reply : List model.Value → CellReply ⊤) (taken : Option (Taken ⊤)) → IsTakenOut (Some vs) f left before taken
    → IsReplyOut (Some (reply (map value_view vs))) f left before reply taken
reply_out vs f left before reply taken h = let t : IsTaken (Some vs) f taken = h.1 in (h.0, record { cells = map value_view vs; frame = t.0 }, t.1, refl, t.2)
