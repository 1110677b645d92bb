-- What hears no answer.
use Rattle.std.proofs.Common.{◌≡◌, ℕ, false, refl}
use Rattle.std.specs.Prelude.{⊤}
use Rattle.herm_journal.specs.Messages.{CellAction}
use Rattle.herm_forms.specs.Frames.{Frame, stuck}
use Rattle.herm_instructions.specs.Instructions.{Instruction, Call}
use Rattle.herm_code_machine.specs.CodeActions.{code_hears}
use Rattle.herm_answers.specs.Calling.{is_call}

-- what is no call hears nothing
pub not_hearing : (i : Instruction) (call : ℕ) (a : CellAction ⊤) (b : Frame ⊤) → is_call i ≡ false → code_hears i call a b ≡ stuck
not_hearing (Call o arguments keeps) call a b e = absurd (let k : ⊥ = cc in k)
not_hearing i call a b e = refl
