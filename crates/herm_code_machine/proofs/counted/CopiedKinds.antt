-- What an instruction of good code copies has no cell that waits to be finalised.
use Rattle.std.proofs.Common.{◌≡◌, ℕ, List, [], ◌∷◌, inl, inr, refl}
use Rattle.herm_model.specs.Lists.{IsIn}
use Rattle.herm_model.specs.Outcomes.{Outcome}
use Rattle.herm_model.specs.Typed.{whole}
use Rattle.herm_model.specs.Types.{TypeTable}
use Rattle.herm_model.specs.Values.{Name, Kind, parts_of, Value}
use Rattle.herm_journal.specs.Kinds.{AllKinds}
use Rattle.herm_journal.specs.Messages.{AreFull}
use Rattle.herm_journal.proofs.MoreKinds.{more-kinds_in, more-kinds_all}
use Rattle.herm_forms.specs.Frames.{Frame}
use Rattle.herm_forms.proofs.PlainCopies.{IsPlainKind, copyable-plain, table-plain}
use Rattle.herm_instructions.specs.Images.{CodeModule, Image}
use Rattle.herm_instructions.specs.Instructions.{Instruction, Store, Get, LoopStart, Call}
use Rattle.herm_instructions.specs.Labels.{Label}
use Rattle.herm_code_machine.specs.ReadyCode.{ready_code}
use Rattle.herm_instructions.specs.Places.{label_at}
use Rattle.herm_code_machine.proofs.balanced.EffectsBalance.{CodeCopies}
use Rattle.herm_code_machine.proofs.sound.AtLabels.{Holds, Finds}
use Rattle.herm_code_machine.proofs.sound.CopiedStacks.{AreCopied}

-- values of copyable types
pub stack-plain : (types : TypeTable) (ts : List ℕ) (stack : List Value) → AreFull types ts stack → AreCopied types ts → AllKinds IsPlainKind stack
stack-plain types [] [] h copied = tt
stack-plain types [] (v ∷ stack) h copied = absurd h
stack-plain types (t ∷ ts) [] h copied = absurd h
stack-plain types (t ∷ ts) (v ∷ stack) h copied = (copyable-plain types whole t v (copied t (inl refl)) h.0, stack-plain types ts stack h.1 (λ u i. copied u (inr i)))

pub copies-plain : (exceptions : ℕ) (image : Image) (m : CodeModule) (W : Outcome → Type 0) (i : Instruction) (l : Label) (stack : List Value) (b : Frame Name) → Finds exceptions image m W i l
    → Holds (ready_code image (label_at image.types image.constants) m) l stack b → AreCopied image.types l.stack → CodeCopies IsPlainKind i stack b
copies-plain exceptions image m W (Store x) l stack b finds holds copied = stack-plain image.types l.stack stack holds.stack copied
copies-plain exceptions image m W (Get r t n) l stack b finds holds copied =
    let h = finds.typed in
    λ table is. table-plain (ready_code image (label_at image.types image.constants) m).scope b.variables (holds.sound).types t (h.2).0 h.0 h.1 (h.2).1.0 (h.2).2 h.5 table is
copies-plain exceptions image m W (LoopStart t slot) l stack b finds holds copied =
    let h = finds.typed in
    λ table is. table-plain (ready_code image (label_at image.types image.constants) m).scope b.variables (holds.sound).types t (h.2).0 h.0 h.1 (h.2).1.0 (h.2).2 h.3 table is
copies-plain exceptions image m W (Call o arguments keep) l stack b finds holds copied = stack-plain image.types l.stack stack holds.stack copied
copies-plain exceptions image m W i l stack b finds holds copied = tt

-- cells of certain kinds are of more kinds
pub more-copied : (f g : Kind → Type 0) (more : (k : Kind) → f k → g k) (i : Instruction) (stack : List Value) (b : Frame Name) → CodeCopies f i stack b → CodeCopies g i stack b
more-copied f g more (Store x) stack b h = more-kinds_all f g more stack h
more-copied f g more (Get r t n) stack b h = λ table is. more-kinds_in f g more (parts_of table) (h table is)
more-copied f g more (LoopStart t slot) stack b h = λ table is. more-kinds_in f g more (parts_of table) (h table is)
more-copied f g more (Call o arguments keep) stack b h = more-kinds_all f g more stack h
more-copied f g more i stack b h = tt
