-- A sound process makes its local step.
use Rattle.std.specs.Prelude.{◌≡◌, Some, ⊤}
use Rattle.herm_model.specs.Values.{Name}
use Rattle.herm_journal.specs.Renaming.{forget_name}
use Rattle.herm_code_machine.specs.CodeInstance.{code_at}
use Rattle.herm_code_machine.specs.CodeLocal.{IsSoundCodeIn}
use Rattle.herm_code_machine.specs.CodeRenaming.{forget_code}
use Rattle.herm_code_machine.specs.CodeStates.{CodeState}
use Rattle.herm_code_machine.specs.CodeSteps.{code_local_step, code_next}
use Rattle.herm_code_machine.specs.Pieces.{Piece}
use Rattle.herm_code_machine.specs.ReadyCode.{ReadyCode, labelled_image}
use Rattle.herm_code_machine.specs.laws.SoundImageLaws.{OfGoodImages}
use Rattle.herm_steps.specs.Coming.{coming, coming_piece}

-- Where a piece without an action comes next in a sound state of an image whose code is good, there is a state behind it, also
-- without names. So a process that stands for that state makes its local step. Code reference, "Sound states of code".
abbrev pub SoundStepsAreMade : Type 0
SoundStepsAreMade = OfGoodImages (λ image main. let ready = labelled_image image main in (c : ReadyCode) (x : CodeState Name) (s : CodeState ⊤) (p : Piece) → IsSoundCodeIn ready x → code_at ready x ≡ Some c → forget_code x ≡ s
    → coming (code_next c s) ≡ coming_piece p → (t : CodeState ⊤) × (code_local_step forget_name c s ≡ Some t))
