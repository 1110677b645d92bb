-- Orders that are out: the message or the reply of an action was taken out of the process, and its answer has not come.
use Rattle.std.specs.Prelude.{◌≡◌, ℕ, List, Option, Some, option_and_then, ⊤}
use Rattle.herm_model.specs.Paths.{Path}
use Rattle.herm_model.specs.Values.{Value, cell_at}
use Rattle.herm_journal.specs.Actions.{to_put, to_answer}
use Rattle.herm_journal.specs.Messages.{CellReply, CellWant}
use Rattle.herm_journal.specs.Renaming.{forget_name}
use Rattle.herm_forms.specs.Acts.{given_at, given_back}
use Rattle.herm_forms.specs.Callmessages.{Composed}
use Rattle.herm_forms.specs.Frames.{Frame, Taken, cleared, counted_action, drop}
use Rattle.herm_forms.specs.ReturnForms.{caller_of}
use Rattle.herm_instructions.specs.Instructions.{Instruction, Send, Call, Return, ReturnBy}
use Rattle.herm_instructions.specs.Operands.{count_inputs}
use Rattle.herm_code_machine.specs.CodeActions.{composed_of, kept_parameters}
use Rattle.herm_code_machine.specs.CodeStates.{CodeState}
use Rattle.herm_code_machine.specs.CodeSteps.{an_action, code_next, code_wanted, counted_if}
use Rattle.herm_code_machine.specs.Pieces.{Met, Piece, stack_before_action}
use Rattle.herm_code_machine.specs.ReadyCode.{ReadyCode}
use Rattle.herm_code_machine.specs.Stacks.{Popped, pop}
use Rattle.herm_frames.specs.HeldFrames.{HeldFrame}
use Rattle.herm_frames.specs.Standing.{Stands}
use Rattle.herm_stack.specs.Answers.{on_stack}
use Rattle.herm_steps.specs.HeldStates.{HeldState}

-- what a return gives back is out, and its callmessage is still there
abbrev pub IsGiven : Option (Taken ⊤) → (source : Path) → HeldFrame → Type 0
IsGiven taken m f = (t : Taken ⊤) × (who : ℕ × ℕ) × (taken ≡ Some t) × (option_and_then caller_of (cell_at m t.frame.variables) ≡ Some who) × Stands f t.frame

-- What is left of the process, from the stack before the action and the frame in which it is counted: the message is gone; a
-- call is open; what a return gives back is gone. Code reference, "Pieces".
abbrev pub IsLeft : ReadyCode → Instruction → (before : List Value) → Frame ⊤ → (stack : List Value) → HeldFrame → Type 0
IsLeft c (Send x o trim) before b stack f = (m : Value) × (before ≡ stack) × (cell_at x (drop trim b).variables ≡ Some m) × Stands f (cleared x (drop trim b))
IsLeft c (Call o arguments keeps) before b stack f =
    (p : Popped) × (k : Composed ⊤) × (pop (count_inputs arguments) before ≡ Some p) × (p.rest ≡ stack) × (composed_of forget_name c arguments p.values b ≡ Some k) × Stands f (record (k.frame) { call = Some k.call })
IsLeft c (Return m) before b stack f = (before ≡ stack) × IsGiven (given_back c.scope (given_at c.scope m) b) m f
IsLeft c (ReturnBy m e kept) before b stack f = (before ≡ stack) × IsGiven (given_back c.scope (kept_parameters c m kept) b) m f
IsLeft c _ before b stack f = ⊥

-- what is wanted is to put this
abbrev pub IsPutOf : Value → CellWant ⊤ → Type 0
IsPutOf m w = (port : ℕ) × (w ≡ to_put port m)

-- what is wanted is to answer a caller with this
abbrev pub IsAnswerBy : CellReply ⊤ → CellWant ⊤ → Type 0
IsAnswerBy reply w = (caller call : ℕ) × (w ≡ to_answer caller call reply)

-- The process has the order of this state's action out.
pub record HoldsOrder (c : ReadyCode) (p : HeldState) (s : CodeState ⊤) : Type 0 where
  pub piece : Piece
  pub met : Met
  pub before : List Value
  pub next : code_next c s ≡ an_action piece met
  pub position : s.position ≡ p.position
  pub there : stack_before_action c piece s.frame.variables s.stack ≡ Some before
  pub left : IsLeft c met.instruction before (counted_action (counted_if piece.has_step s.frame)) (on_stack p.stack) p.frame

-- what this state wants is to put this
abbrev pub IsWanted : ReadyCode → (message : Value) → CodeState ⊤ → Type 0
IsWanted c m s = (w : CellWant ⊤) × (code_wanted forget_name c s ≡ Some w) × IsPutOf m w

-- what this state wants is to answer a caller with this
abbrev pub IsWantedReply : ReadyCode → CellReply ⊤ → CodeState ⊤ → Type 0
IsWantedReply c reply s = (w : CellWant ⊤) × (code_wanted forget_name c s ≡ Some w) × IsAnswerBy reply w
