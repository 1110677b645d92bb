-- Good code: what a compiler promises of its code, and what running it relies on.
use Rattle.std.specs.Prelude.{ℕ, ◌<◌, ◌≤◌, ◌↔◌, List, [], map, length, Some, slice_get, ⊤, ◌≡◌}
use Rattle.herm_model.specs.Lists.{IsIn, list_of}
use Rattle.herm_model.specs.Paths.{Path, Fact, init, case}
use Rattle.herm_model.specs.Types.{inport, TypeTable, type_at}
use Rattle.herm_model.specs.Facts.{IsClosed}
use Rattle.herm_model.specs.Expressions.{Literal}
use Rattle.herm_model.specs.Statements.{Process, no_statements, Differ}
use Rattle.herm_model.specs.Calls.{shape_at, raises_of, call_raises, kept_for}
use Rattle.herm_model.specs.FactsOfStatements.{sent_to}
use Rattle.herm_model.specs.Finalising.{keeps, excess_at}
use Rattle.herm_model.specs.laws.FlowLaws.{Rise}
use Rattle.herm_model.specs.TypedExpressions.{HasShape, IsLiteralOf}
use Rattle.herm_model.specs.WellFormedTables.{IsType}
use Rattle.herm_model.specs.TypedStatements.{IsTarget}
use Rattle.herm_instructions.specs.Instructions.{Instruction, Step, LoopStart, LoopNext, LoopDrop, Send, Call, ReturnBy}
use Rattle.herm_instructions.specs.Labels.{Slot, Label, ListedLabel, listed_at}
use Rattle.herm_instructions.specs.Images.{Landing, CodeModule, Image}
use Rattle.herm_instructions.specs.Operands.{type_of_literal, FindsOnStack}
use Rattle.herm_instructions.specs.Effects.{facts_needed, exceptions_of, label_behind}
use Rattle.herm_instructions.specs.Places.{Way, Place, named_ways, ways, label_at_start, places, targets}
use Rattle.herm_instructions.specs.TypedInstructions.{IsTypedInstruction}
use Rattle.herm_instructions.specs.Pieces.{ActsAtOnce}

-- A label arrives where another one is listed: with the same stack and slots, the same `init` facts, and at least its `case`
-- facts. Code reference, "Good code".
pub record Arrives (arriving listed : Label) : Type 0 where
  pub stack : listed.stack ≡ arriving.stack
  pub slots : listed.slots ≡ arriving.slots
  pub values : (p : Path) → IsIn (init p) listed.facts ↔ IsIn (init p) arriving.facts
  pub components : (p : Path) (c : ℕ) → IsIn (case p c) listed.facts → IsIn (case p c) arriving.facts

-- Each exception that an instruction can raise has one landing, and no other has one. Code reference, "Good code".
abbrev pub HasLandings : List ℕ → List ℕ → Type 0
HasLandings raised landed = Differ landed × ((e : ℕ) → IsIn e landed ↔ IsIn e raised)

-- A slot is begun where there is none of its number; a row is taken of a slot that is there, to a target of the row's type; and
-- what is dropped is there. Code reference, "Good code".
abbrev pub FindsSlots : TypeTable → (variables : List ℕ) → Instruction → List Slot → Type 0
FindsSlots table variables (LoopStart t s) slots = IsIn s (map (λ (slot : Slot). slot.number) slots) → ⊥
FindsSlots table variables (LoopNext r s index) slots = (slot : Slot) × IsIn slot slots × (slot.number ≡ s) × IsTarget table variables r slot.row
FindsSlots table variables (LoopDrop s) slots = IsIn s (map (λ (slot : Slot). slot.number) slots)
FindsSlots table variables i slots = ⊤

-- The paths that a send trims are the excess of the message: what is there by these facts, and is not sent. Code reference, "Good code".
abbrev pub TrimsExcess : TypeTable → (variables : List ℕ) → Instruction → List Fact → Type 0
TrimsExcess table variables (Send x o trim) facts = trim ≡ list_of (λ t. excess_at table (keeps facts) (keeps (sent_to table variables o x)) x t) (type_at table variables x)
TrimsExcess table variables i facts = ⊤

-- A call lists exactly the exceptions that its type declares, in order, with what they keep; and a return by an exception exactly
-- what the type of its callmessage keeps for it. Code reference, "Good code".
abbrev pub KeepsAsDeclared : TypeTable → (variables : List ℕ) → Instruction → Type 0
KeepsAsDeclared table variables (Call o arguments listed) = listed ≡ call_raises table variables o
KeepsAsDeclared table variables (ReturnBy m e kept) = kept ≡ kept_for (list_of raises_of (shape_at table variables m)) e
KeepsAsDeclared table variables i = ⊤

-- the processes of code modules, of which other modules know the variables
abbrev pub processes_of : List CodeModule → List Process
processes_of modules = map (λ (m : CodeModule). record { variables = m.variables; body = no_statements }) modules

-- the indices that a module lists labels for
abbrev pub listed_indices : CodeModule → List ℕ
listed_indices m = map (λ (l : ListedLabel). l.index) m.labels

module _ (exceptions : ℕ) (image : Image) (m : CodeModule) where
  abbrev pub module_places : List Place
  module_places = places image.types image.constants m

  -- it holds of each instruction, and of each one that control comes to, with its label
  abbrev pub OfEachInstruction : (Place → Type 0) → Type 0
  OfEachInstruction P = (p : Place) → IsIn p module_places → P p

  abbrev pub OfEachLabelled : (Place → Label → Type 0) → Type 0
  OfEachLabelled P = (p : Place) (l : Label) → IsIn p module_places → p.label ≡ Some l → P p l

  abbrev pub behind : Place → Way → Label → Label
  behind p w l = label_behind image.types m.variables image.constants p.instruction w.outcome l

  -- a jump or a landing at or before its instruction goes to a step that is listed with the empty stack
  abbrev pub GoesBackToStep : Place → Type 0
  GoesBackToStep p = (w : Way) → IsIn w (named_ways p) → w.index ≤ p.index → (l : Label) × (slice_get m.code w.index ≡ Some Step) × (listed_at m.labels w.index ≡ Some l) × (l.stack ≡ [])

  -- A code module is good beside the others of its image: a part for each rule. Code reference, "Good code".
  pub record IsGoodModule : Type 0 where
    -- variable 0 is of an inport type, and each variable of a type that there is
    pub port : (t message : ℕ) × (declared : List Fact) × (slice_get m.variables 0 ≡ Some t) × HasShape image.types t (inport message declared)
    pub variables_known : (t : ℕ) → IsIn t m.variables → IsType image.types t
    -- there is an instruction, and for each its landings
    pub code : 0 < length m.code
    pub landings_listed : length m.landings ≡ length m.code
    -- labels are listed for exactly the indices that jumps and landings name, by rising index, each with a closed set of facts
    pub labels_rise : Rise (listed_indices m)
    pub labels_listed : (n : ℕ) → IsIn n (listed_indices m) ↔ IsIn n (targets module_places)
    pub labels_closed : (l : ListedLabel) → IsIn l m.labels → IsClosed image.types m.variables (λ f. IsIn f (l.label).facts)
    -- each instruction that control comes to is typed, and finds its operands: on the stack, facts, and slots
    pub typed : OfEachLabelled (λ p l. IsTypedInstruction image.types m.variables exceptions image.constants (processes_of image.modules) p.instruction)
    pub stack : OfEachLabelled (λ p l. FindsOnStack image.types image.constants m.variables p.instruction l.stack)
    pub facts : OfEachLabelled (λ p l. (f : Fact) → IsIn f (facts_needed image.types m.variables p.instruction) → IsIn f l.facts)
    pub slots : OfEachLabelled (λ p l. FindsSlots image.types m.variables p.instruction l.slots)
    -- a send trims exactly the excess
    pub trims : OfEachLabelled (λ p l. TrimsExcess image.types m.variables p.instruction l.facts)
    -- control does not leave the code
    pub in_range : OfEachLabelled (λ p l. (w : Way) → IsIn w (ways p) → w.index < length m.code)
    -- what arrives where a label is listed fits that label
    pub begins : (l : Label) → listed_at m.labels 0 ≡ Some l → Arrives label_at_start l
    pub arrives : OfEachLabelled (λ p l. (w : Way) (listed : Label) → IsIn w (ways p) → listed_at m.labels w.index ≡ Some listed → Arrives (behind p w l) listed)
    -- control goes back only to steps, and an action comes at once behind its step
    pub goes_back : OfEachInstruction GoesBackToStep
    pub acts_at_once : OfEachInstruction (ActsAtOnce image.types module_places)
    -- what calls and returns keep, and landings
    pub keeps : OfEachInstruction (λ p. KeepsAsDeclared image.types m.variables p.instruction)
    pub landings : OfEachInstruction (λ p. HasLandings (exceptions_of image.types m.variables p.instruction) (map (λ (l : Landing). l.exception) p.landings))

-- An image is good over its types and so many exceptions where its constants are what literals are, and each of its modules is good.
-- Code reference, "Good code".
pub record IsGood (exceptions : ℕ) (image : Image) : Type 0 where
  pub constants : (l : Literal) → IsIn l image.constants → IsLiteralOf image.types l (type_of_literal l)
  pub modules : (m : CodeModule) → IsIn m image.modules → IsGoodModule exceptions image m
