-- What is claimed of runs of instructions and of ends: each run is instructions one after the other, and an end is that of its instruction.
use Rattle.std.specs.Prelude.{ℕ, [], Some, None, false, ◌≡◌, ◌↔◌}
use Rattle.herm_model.specs.Targets
use Rattle.herm_forms.specs.EdgeFinalising.{arrive}
use Rattle.herm_forms.specs.Frames.{Name}
use Rattle.herm_instructions.specs.Images.{instruction_at}
use Rattle.herm_instructions.specs.Instructions.{Instruction, End, EndBy}
use Rattle.herm_code_machine.specs.CodeInstance.{own_name, code_machine}
use Rattle.herm_code_machine.specs.CodeStates.{at_index, at_end, at_end_by, CodeState, done_instruction, begins_piece, to_next_piece}
use Rattle.herm_code_machine.specs.ReadyCode.{ReadyCode, ReadyImage}
use Rattle.herm_code_machine.specs.laws.GoodImageLaws.{IsEnd}
use Rattle.herm_code_machine.specs.laws.PieceLaws.{IsAtPiece}
use Rattle.herm_code_machine.specs.laws.StandingLaws.{IsAtEnd}

-- What a run comes to from a state: the state itself, and what each instruction leaves that begins no piece. Code reference, "Pieces".
pub data IsOnTheWay (name : Name → Name) (c : ReadyCode) (s : CodeState Name) : CodeState Name → Type 0 where
  as_it_begins : IsOnTheWay name c s s
  by_instruction : (t u : CodeState Name) (i : ℕ) (instruction : Instruction) → IsOnTheWay name c s t → t.position ≡ at_index i → instruction_at c.code i ≡ Some instruction → begins_piece c instruction ≡ false → done_instruction name c t i instruction ≡ Some u
      → IsOnTheWay name c s u

-- A run does instructions one after the other, up to a piece or an end. Code reference, "Pieces".
abbrev pub RunsGoOn : Type 0
RunsGoOn = (name : Name → Name) (c : ReadyCode) (s t : CodeState Name) → to_next_piece name c s ≡ Some t → IsOnTheWay name c s t × IsAtPiece c t.position

-- Behind `End` a process is at its end, by no exception, and behind `EndBy` at its end by the exception that is named, with what it has finalised as on an edge
-- of the source to this end: by variables, and then its loops' rows. Behind no other instruction is it at an end. Code reference, "Instructions".
pub record EndsSo (image : ReadyImage) (c : ReadyCode) : Type 0 where
  pub ends : (s t : CodeState Name) (i : ℕ) → done_instruction own_name c s i End ≡ Some t → (t.position ≡ at_end) × ((code_machine image).exception t ≡ None)
  pub ends_by : (s t : CodeState Name) (i e : ℕ) → done_instruction own_name c s i (EndBy e) ≡ Some t → (t.position ≡ at_end_by e) × ((code_machine image).exception t ≡ Some e)
  pub finalises : (s t : CodeState Name) (i : ℕ) → done_instruction own_name c s i End ≡ Some t → (t.frame ≡ arrive c.scope Targets.end s.frame) × (t.stack ≡ [])
  pub finalises_by : (s t : CodeState Name) (i e : ℕ) → done_instruction own_name c s i (EndBy e) ≡ Some t → (t.frame ≡ arrive c.scope (Targets.end_by e) s.frame) × (t.stack ≡ [])
  pub goes_on : (s t : CodeState Name) (i : ℕ) (instruction : Instruction) → (IsEnd instruction → ⊥) → done_instruction own_name c s i instruction ≡ Some t → (IsAtEnd t.position → ⊥) × ((code_machine image).exception t ≡ None)

-- A process has ended by an exception exactly where its position is the end by this exception. Code reference, "Processes".
abbrev pub ExceptionsAreTold : Type 0
ExceptionsAreTold = (image : ReadyImage) (x : CodeState Name) (e : ℕ) → ((code_machine image).exception x ≡ Some e) ↔ (x.position ≡ at_end_by e)

abbrev pub EndsAreTold : Type 0
EndsAreTold = (image : ReadyImage) (c : ReadyCode) → EndsSo image c
