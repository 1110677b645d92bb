-- What is sound within one process of code: its values, its stack and its slots against the label of its position.
use Rattle.std.specs.Prelude.{ℕ, List, [], ◌∷◌, map, drop, Option, Some, None, IsTrue, IsFalse, ⊤, ◌≡◌}
use Rattle.herm_model.specs.Lists.{IsIn, list_of, any_pass}
use Rattle.herm_model.specs.Paths.{Path, Fact, path_of, is_at_or_below}
use Rattle.herm_model.specs.Copyable.{IsCopyable}
use Rattle.herm_model.specs.Statements.{Differ}
use Rattle.herm_model.specs.Types.{TypeTable}
use Rattle.herm_model.specs.FactsOfValues.{HasExactly}
use Rattle.herm_model.specs.Finalising.{waits}
use Rattle.herm_model.specs.Typed.{HaveTypes, Fits, many}
use Rattle.herm_model.specs.Values.{Name, Kind, Cell, cell, no_parts, gap, part}
use Rattle.herm_journal.specs.Messages.{AreFull}
use Rattle.herm_forms.specs.Frames.{Loop}
use Rattle.herm_system.specs.Kinds.{typed_list}
use Rattle.herm_sound.specs.SoundBeside.{IsSoundBeside}
use Rattle.herm_system.specs.Systems.{System}
use Rattle.herm_instructions.specs.Instructions.{Instruction, Call}
use Rattle.herm_instructions.specs.Images.{Image}
use Rattle.herm_instructions.specs.Labels.{Slot, Label}
use Rattle.herm_code_machine.specs.ReadyCode.{ReadyCode, ReadyImage, labelled_image}
use Rattle.herm_instructions.specs.Operands.{count_inputs}
use Rattle.herm_code_machine.specs.CodeActions.{inouts}
use Rattle.herm_code_machine.specs.CodeStates.{at_index, CodeState}
use Rattle.herm_code_machine.specs.Pieces.{Met}
use Rattle.herm_code_machine.specs.CodeSteps.{met_at}
use Rattle.herm_code_machine.specs.CodeSeen.{label_of}
use Rattle.herm_code_machine.specs.CodeInstance.{code_at, code_machine}
use Rattle.herm_code_machine.specs.laws.PieceLaws.{IsAtPiece}

-- what a call lends while it is open, and how many values it has taken from the stack
abbrev pub lent_by : Instruction → List Path
lent_by (Call o arguments keeps) = inouts arguments
lent_by _ = []

abbrev pub inputs_of : Instruction → ℕ
inputs_of (Call o arguments keeps) = count_inputs arguments
inputs_of _ = 0

abbrev pub IsCall : Instruction → Type 0
IsCall (Call o arguments keeps) = ⊤
IsCall _ = ⊥

-- the instruction at the position, while a call is open
abbrev pub met_while_open : {N : Type 0} → ReadyCode → CodeState N → Option Met
met_while_open c s = elim s.frame.call [ None ↦ None | Some k ↦ met_at c s.position ]

-- the facts, the stack types and the slots of the label at a position; at an end there are none
abbrev pub facts_at : {N : Type 0} → ReadyCode → CodeState N → List Fact
facts_at c s = list_of (λ (l : Label). l.facts) (label_of c s.position)

abbrev pub slots_at : {N : Type 0} → ReadyCode → CodeState N → List Slot
slots_at c s = list_of (λ (l : Label). l.slots) (label_of c s.position)

abbrev pub stack_at : {N : Type 0} → ReadyCode → CodeState N → List ℕ
stack_at c s = list_of (λ (l : Label). l.stack) (label_of c s.position)

-- A process has the facts of its label, but in an open call none at or below an argument of mode inout.
-- Code reference, "Sound states of code".
abbrev pub HasFactOfLabel : {N : Type 0} → ReadyCode → CodeState N → Fact → Type 0
HasFactOfLabel c s f = IsIn f (facts_at c s) × IsFalse (any_pass (λ p. is_at_or_below p (path_of f)) (list_of (λ (m : Met). lent_by m.instruction) (met_while_open c s)))

-- the types on the stack; in an open call without those of its `in` parameters
abbrev pub stack_types : {N : Type 0} → ReadyCode → CodeState N → List ℕ
stack_types c s = elim (met_while_open c s) [ None ↦ stack_at c s | Some m ↦ drop (inputs_of m.instruction) (stack_at c s) ]

-- the lists of rows are those of the slots, in order, with full rows of their types
abbrev pub AreSlots : {N : Type 0} → TypeTable → List Slot → List (Loop N) → Type 0
AreSlots types [] [] = ⊤
AreSlots types [] (l ∷ loops) = ⊥
AreSlots types (s ∷ slots) [] = ⊥
AreSlots types (s ∷ slots) (l ∷ loops) = (l.statement ≡ s.number) × Fits types (many s.row) l.rows × AreSlots types slots loops

-- an inport or a callmessage without parts
abbrev pub WaitsAlone : {N : Type 0} → Cell N → Type 0
WaitsAlone (cell n k no_parts) = IsTrue (waits k)
WaitsAlone (cell n k (gap ps)) = ⊥
WaitsAlone (cell n k (part c ps)) = ⊥

-- A process of code stands at a piece that has a label, or at an end. It has values exactly where the facts of its label say, each of its type; its stack has full
-- values of the label's types, which are copyable, and its slots are the label's, with full rows, and no two of one number; a call is open only at a call; and
-- the work list has inports and callmessages alone. Code reference, "Sound states of code".
pub record IsLocallySoundCode {N : Type 0} (c : ReadyCode) (s : CodeState N) : Type 0 where
  pub stands : IsAtPiece c s.position
  pub label : (i : ℕ) → s.position ≡ at_index i → (l : Label) × (c.label i ≡ Some l)
  pub values : HasExactly s.frame.variables (HasFactOfLabel c s)
  pub types : HaveTypes c.scope.types c.scope.variables s.frame.variables
  pub stack : AreFull c.scope.types (stack_types c s) s.stack
  pub copies : (t : ℕ) → IsIn t (stack_types c s) → IsCopyable c.scope.types t
  pub slots : AreSlots c.scope.types (slots_at c s) s.frame.loops
  pub slots_differ : Differ (map (λ (l : Loop N). l.statement) s.frame.loops)
  pub call : (k : ℕ) → s.frame.call ≡ Some k → (m : Met) × (met_at c s.position ≡ Some m) × IsCall m.instruction
  pub work : (item : Cell N) → IsIn item s.frame.work → WaitsAlone item

-- What is sound within a process of an image: there is code of its module's number, by which it is so. Code reference, "Sound states of code".
abbrev pub IsSoundCodeIn : ReadyImage → CodeState Name → Type 0
IsSoundCodeIn image s = (c : ReadyCode) × (code_at image s ≡ Some c) × IsLocallySoundCode c s

-- The values on the stack, with the types of their places: what a process has beside its cells.
abbrev pub typed_stack : ReadyImage → CodeState Name → List (ℕ × Kind)
typed_stack image s = list_of (λ c. typed_list image.types (stack_types c s) s.stack) (code_at image s)

-- A sound state of an image whose code is good: with the labels of good code, and outports on stacks at places of their types.
-- Code reference, "Sound states of code".
abbrev pub IsSoundCode : Image → (main : ℕ) → System (CodeState Name) → Type 0
IsSoundCode image main s = let ready = labelled_image image main in IsSoundBeside (code_machine ready) (IsSoundCodeIn ready) (typed_stack ready) s
