-- What a piece's action wants, and what its answer leaves, from the stack before it.
use Rattle.std.specs.Prelude.{◌≡◌, ℕ, List, Option, Some, ⊤}
use Rattle.herm_model.specs.Outcomes.{ok}
use Rattle.herm_model.specs.Values.{Value}
use Rattle.herm_journal.specs.Messages.{CellWant, CellAction}
use Rattle.herm_journal.specs.Renaming.{forget_name}
use Rattle.herm_forms.specs.Frames.{Frame}
use Rattle.herm_instructions.specs.Instructions.{Instruction}
use Rattle.herm_code_machine.specs.CodeActions.{code_settles, code_wants}
use Rattle.herm_code_machine.specs.ReadyCode.{ReadyCode}
use Rattle.herm_frames.specs.Completed.{Completes}
use Rattle.herm_frames.specs.HeldFrames.{HeldFrame}

-- there is a stack before the action, with which the instruction wants this
abbrev pub Wants : ReadyCode → Instruction → CellWant ⊤ → Frame ⊤ → Option (List Value) → Type 0
Wants c i w s before = (stack : List Value) × (before ≡ Some stack) × (code_wants forget_name c i stack s ≡ Some w)

-- there is a stack before the action, from which the answer goes on, with this stack and a frame that the code's stands for
abbrev pub Places : ReadyCode → Instruction → (at : ℕ) → CellAction ⊤ → Frame ⊤ → (before : Option (List Value)) → (new : List Value) → HeldFrame → Type 0
Places c i at action s before new f =
    (stack : List Value) × (before ≡ Some stack) × ((code_settles forget_name c i stack at action s).stack ≡ new) × Completes (Some ok) f (code_settles forget_name c i stack at action s).completion
