-- What is claimed of the stack, and of runs of instructions.
use Rattle.std.specs.Prelude.{ℕ, ◌+◌, List, [], ◌∷◌, length, Some, ◌≡◌}
use Rattle.herm_model.specs.Outcomes.{raised}
use Rattle.herm_model.specs.Values.{Value}
use Rattle.herm_forms.specs.Frames.{Name, Frame, goes}
use Rattle.herm_instructions.specs.Instructions.{Instruction}
use Rattle.herm_instructions.specs.Images.{landing_of}
use Rattle.herm_code_machine.specs.ReadyCode.{ReadyCode}
use Rattle.herm_code_machine.specs.Stacks.{pop}
use Rattle.herm_code_machine.specs.CodeStates.{at_index, CodeState, state_behind, run_on}

-- the values pushed one by one
abbrev pub pushed_on : List Value → List Value → List Value
pushed_on [] stack = stack
pushed_on (v ∷ values) stack = pushed_on values (v ∷ stack)

-- Values are taken in the order in which they were pushed, and leave the stack as it was before.
-- Code reference, "Instructions".
abbrev pub PoppedAsPushed : Type 0
PoppedAsPushed = (values stack : List Value) → pop (length values) (pushed_on values stack) ≡ Some (record { values = values; rest = stack })

-- An exception leads to its landing, with an empty stack; and nowhere else. Code reference, "Landings".
abbrev pub ExceptionsLand : Type 0
ExceptionsLand = (c : ReadyCode) (s t : CodeState Name) (i : ℕ) (instruction : Instruction) (stack : List Value) (e : ℕ) (b : Frame Name)
    → state_behind c s i instruction stack (goes (raised e) b) ≡ Some t
    → (j : ℕ) × (landing_of c.code i e ≡ Some j) × (t.position ≡ at_index j) × (t.stack ≡ []) × (t.frame ≡ b)

-- Where some instructions suffice to come to the next piece, more of them make no difference. Code reference, "Pieces".
abbrev pub RunsAreOne : Type 0
RunsAreOne = (name : Name → Name) (c : ReadyCode) (most more : ℕ) (s t : CodeState Name) → run_on name c most s ≡ Some t → run_on name c (most + more) s ≡ Some t
