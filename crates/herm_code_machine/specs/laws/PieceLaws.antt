-- What is claimed of where processes of code stand.
use Rattle.std.specs.Prelude.{ℕ, true, Some, ⊤, ◌≡◌}
use Rattle.herm_model.specs.Values.{Cell}
use Rattle.herm_journal.specs.Messages.{CellAction}
use Rattle.herm_forms.specs.Frames.{Name}
use Rattle.herm_instructions.specs.Instructions.{Instruction}
use Rattle.herm_instructions.specs.Images.{instruction_at}
use Rattle.herm_code_machine.specs.ReadyCode.{ReadyCode}
use Rattle.herm_code_machine.specs.CodeStates.{Position, at_index, at_end, at_end_by, CodeState, begins_piece, code_begin}
use Rattle.herm_code_machine.specs.CodeSteps.{code_local_step, code_answered}

-- A position at which a piece begins: a step or an action stands there; or an end. Code reference, "Pieces".
abbrev pub IsAtPiece : ReadyCode → Position → Type 0
IsAtPiece c (at_index i) = (instruction : Instruction) × (instruction_at c.code i ≡ Some instruction) × (begins_piece c instruction ≡ true)
IsAtPiece c at_end = ⊤
IsAtPiece c (at_end_by e) = ⊤

-- A process begins at a piece or at an end; it stands at one behind each local step, and behind each answer where it stood at
-- one before. Code reference, "Pieces".
pub record StandsAtPieces (name : Name → Name) (c : ReadyCode) : Type 0 where
  pub begins : (code number : ℕ) (port : Cell Name) (x : CodeState Name) → code_begin name c code number port ≡ Some x → IsAtPiece c x.position
  pub local_steps : (s t : CodeState Name) → code_local_step name c s ≡ Some t → IsAtPiece c t.position
  pub answers : (s t : CodeState Name) (at : ℕ) (a : CellAction Name) → IsAtPiece c s.position → code_answered name c s at a ≡ Some t → IsAtPiece c t.position

abbrev pub ProcessesStandAtPieces : Type 0
ProcessesStandAtPieces = (name : Name → Name) (c : ReadyCode) → StandsAtPieces name c
