-- The tables of sound processes can have the fields of their type as their key.
use Rattle.std.specs.Prelude.{◌≡◌, ℕ, Some, slice_get, ⊤}
use Rattle.herm_model.specs.Values.{Name, an_inport, cell, no_parts, read_at}
use Rattle.herm_journal.specs.Messages.{CellWant, CellAction}
use Rattle.herm_forms.specs.Acts.{key_at}
use Rattle.herm_forms.specs.Frames.{Frame}
use Rattle.herm_system.specs.Suiting.{Answers, Suits}
use Rattle.herm_instructions.specs.Images.{Image, instruction_at}
use Rattle.herm_instructions.specs.Instructions.{Instruction, Insert, Remove, Get, Step}
use Rattle.herm_code_machine.specs.CodeInstance.{own_name, code_at, code_machine}
use Rattle.herm_code_machine.specs.CodeLocal.{IsSoundCodeIn}
use Rattle.herm_code_machine.specs.CodeRenaming.{forget_code}
use Rattle.herm_code_machine.specs.CodeStates.{at_index, CodeState}
use Rattle.herm_code_machine.specs.ReadyCode.{ReadyCode, ReadyImage, labelled_image}
use Rattle.herm_code_machine.specs.laws.EndLaws.{IsOnTheWay}
use Rattle.herm_code_machine.specs.laws.GoodImageLaws.{IsGoodOver}
use Rattle.herm_code_machine.specs.laws.OperandLaws.{as_begun, behind_step, IsLeftBy}
use Rattle.herm_code_machine.specs.laws.StandingLaws.{IsAtInstruction}
use Rattle.herm_frames.specs.KeyedTables.{HasKeyFields}
use Rattle.herm_frames.specs.Keyings.{CanHaveKey}

-- The table to which a row goes, or of which one is taken or copied, can have the fields of its type as its key; and a row that
-- goes there is of a record type of which they are scalars. Language reference, "Tables".
abbrev pub CanBeKeyed : ReadyCode → Instruction → Frame ⊤ → Type 0
CanBeKeyed c (Insert r t) b = HasKeyFields c.scope (key_at c.scope t) r × CanHaveKey (key_at c.scope t) (read_at t b.variables)
CanBeKeyed c (Remove r t n) b = CanHaveKey (key_at c.scope t) (read_at t b.variables)
CanBeKeyed c (Get r t n) b = CanHaveKey (key_at c.scope t) (read_at t b.variables)
CanBeKeyed c i b = ⊤

-- it is so at each instruction to which the run from a state comes
abbrev pub IsKeyedOnTheWay : ReadyCode → CodeState Name → Type 0
IsKeyedOnTheWay c s = (t : CodeState Name) → IsOnTheWay own_name c s t → (i : ℕ) (instruction : Instruction) → t.position ≡ at_index i → instruction_at c.code i ≡ Some instruction
    → CanBeKeyed c instruction (forget_code t).frame

-- as a process begins, behind the step that a sound process is at, and behind each answer with which what suits comes in
pub record AreRunsKeyed (image : ReadyImage) (c : ReadyCode) : Type 0 where
  pub begins : (code number port : ℕ) (n : Name) → slice_get image.codes code ≡ Some c → IsKeyedOnTheWay c (as_begun c code number (cell n (an_inport port) no_parts))
  pub steps : (x : CodeState Name) → IsSoundCodeIn image x → code_at image x ≡ Some c → (i : ℕ) → IsAtInstruction c x i Step → IsKeyedOnTheWay c (behind_step x i)
  pub answers : (x : CodeState Name) → IsSoundCodeIn image x → code_at image x ≡ Some c → (want : CellWant Name) (at : ℕ) (a : CellAction Name) → (code_machine image).wanted x ≡ Some want → Answers want a → Suits (code_machine image) x at a
      → (u : CodeState Name) → IsLeftBy c x at a u → IsKeyedOnTheWay c u

-- So a table is never refused its key in a run of an image whose code is good. Code reference, "Sound states of code".
abbrev pub RunsAreKeyed : Type 0
RunsAreKeyed = (exceptions : ℕ) (image : Image) (main : ℕ) → IsGoodOver exceptions image → (c : ReadyCode) → AreRunsKeyed (labelled_image image main) c
