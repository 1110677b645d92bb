-- The types of the ports of modules of code, and of the inport that a process makes next.
use Rattle.std.specs.Prelude.{ℕ, Option, Some, None, option_and_then, slice_get}
use Rattle.herm_instructions.specs.Instructions.{Instruction, New}
use Rattle.herm_code_machine.specs.ReadyCode.{ReadyCode, ReadyImage}
use Rattle.herm_code_machine.specs.CodeInstance.{code_at}
use Rattle.herm_code_machine.specs.CodeSeen.{action_at}
use Rattle.herm_code_machine.specs.CodeStates.{CodeState}
use Rattle.herm_code_machine.specs.Pieces.{Met}

-- the type of variable 0 of a module, in which its port is as it begins
abbrev pub first_type : ReadyImage → (code : ℕ) → Option ℕ
first_type image code = option_and_then (λ (c : ReadyCode). slice_get c.scope.variables 0) (slice_get image.codes code)

-- the type that a `New` makes a value of
abbrev pub type_made : Instruction → Option ℕ
type_made (New x t) = Some t
type_made _ = None

-- where the action of its piece is a `New`
abbrev pub new_type : {N : Type 0} → ReadyImage → CodeState N → Option ℕ
new_type image s = option_and_then (λ (c : ReadyCode). option_and_then (λ (m : Met). type_made m.instruction) (action_at c s.position)) (code_at image s)
