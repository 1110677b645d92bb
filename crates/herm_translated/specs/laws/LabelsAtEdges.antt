-- What is claimed of the labels at the edges of blocks.
use Rattle.std.specs.Prelude.{ℕ, suc, ◌+◌, List, [], ◌∷◌, map, length, true, false, Some, slice_get, ◌≡◌, ◌⊎◌}
use Rattle.herm_model.specs.Lists.{IsIn}
use Rattle.herm_model.specs.Types.{TypeTable}
use Rattle.herm_model.specs.Expressions.{Literal}
use Rattle.herm_model.specs.Statements.{Process, Differ}
use Rattle.herm_model.specs.Outcomes.{ok, outcomes}
use Rattle.herm_model.specs.TypedStatements.{IsTypedForm}
use Rattle.herm_model.specs.WellFormedTables.{IsWellFormedTable}
use Rattle.herm_instructions.specs.Places.{label_at}
use Rattle.herm_translated.specs.Constants.{literals_in}
use Rattle.herm_translated.specs.Departures.{Departure}
use Rattle.herm_translated.specs.CodeBlocks.{CodeBlock}
use Rattle.herm_translated.specs.Layout.{exit_of}
use Rattle.herm_translated.specs.BlockLabels.{label_with, facts_after, comes_first, edge_slots}
use Rattle.herm_translated.specs.laws.LayoutLaws.{module_of, start}
use Rattle.herm_translated.specs.laws.LabelsAlong.{label_where_left}

-- A block stands behind one that goes on to it, and has what that one's form hands on. Code reference, "Blocks".
pub record IsHandedOn (types : TypeTable) (variables : List ℕ) (blocks : List CodeBlock) (n : ℕ) (c : CodeBlock) : Type 0 where
  pub before : ℕ
  pub block : CodeBlock
  pub next : n ≡ suc before
  pub there : slice_get blocks before ≡ Some block
  pub onward : block.onward ≡ true
  pub facts : c.facts ≡ facts_after types variables block.form ok block.facts
  pub slots : c.slots ≡ edge_slots types variables block

-- each block is led to by an edge to its first step, or by the block before it
abbrev pub AreReached : TypeTable → (variables : List ℕ) → Departure → List CodeBlock → Type 0
AreReached types variables entry blocks = (n : ℕ) (c : CodeBlock) → slice_get blocks n ≡ Some c → (comes_first entry blocks n ≡ true) ⊎ IsHandedOn types variables blocks n c

module _ (types : TypeTable) (variables : List ℕ) (constants : List Literal) where
  -- A block of a typed form, whose literals are among the constants, and which has an edge for each outcome of its form, or goes on by its only one.
  pub record IsTypedBlock (exceptions : ℕ) (processes : List Process) (b : CodeBlock) : Type 0 where
    pub typed : IsTypedForm types variables exceptions processes b.form
    pub known : (l : Literal) → IsIn l (literals_in b.form) → IsIn l constants
    pub outcomes_in_order : b.onward ≡ false → map (λ (d : Departure). d.outcome) b.departures ≡ outcomes types variables b.form
    pub goes_on : b.onward ≡ true → (b.departures ≡ []) × (outcomes types variables b.form ≡ ok ∷ [])
    pub outcomes_differ : Differ (map (λ (d : Departure). d.outcome) b.departures)

  -- Before each edge of such a block stands what is held behind its outcome, with the slots of the block; and before the last
  -- instruction of the edge what it has not dropped. Code reference, "Blocks".
  pub record HasEdgeLabels (entry : Departure) (blocks : List CodeBlock) (i : ℕ) (b : CodeBlock) (d : Departure) : Type 0 where
    pub before : label_at types constants (module_of types variables constants entry blocks) (exit_of types variables constants (start types variables constants entry blocks i) b d.outcome)
        ≡ Some (label_with (facts_after types variables b.form d.outcome b.facts) (edge_slots types variables b))
    pub at_last : label_at types constants (module_of types variables constants entry blocks) (exit_of types variables constants (start types variables constants entry blocks i) b d.outcome + (length d.drops + length d.slots))
        ≡ Some (label_where_left d (facts_after types variables b.form d.outcome b.facts) (edge_slots types variables b))

  abbrev pub AreTypedBlocks : (exceptions : ℕ) (processes : List Process) → List CodeBlock → Type 0
  AreTypedBlocks exceptions processes blocks = (i : ℕ) (b : CodeBlock) → slice_get blocks i ≡ Some b → IsTypedBlock exceptions processes b

-- At the first step of each block stand its facts and slots. Code reference, "Blocks".
abbrev pub FirstStepsAreLabelled : Type 0
FirstStepsAreLabelled = (exceptions : ℕ) (types : TypeTable) (variables : List ℕ) (constants : List Literal) (processes : List Process) (entry : Departure) (blocks : List CodeBlock) → IsWellFormedTable exceptions types
    → AreReached types variables entry blocks → AreTypedBlocks types variables constants exceptions processes blocks
    → (i : ℕ) (b : CodeBlock) → slice_get blocks i ≡ Some b → label_at types constants (module_of types variables constants entry blocks) (start types variables constants entry blocks i) ≡ Some (label_with b.facts b.slots)

abbrev pub EdgesAreLabelled : Type 0
EdgesAreLabelled = (exceptions : ℕ) (types : TypeTable) (variables : List ℕ) (constants : List Literal) (processes : List Process) (entry : Departure) (blocks : List CodeBlock) → IsWellFormedTable exceptions types
    → AreReached types variables entry blocks → AreTypedBlocks types variables constants exceptions processes blocks
    → (i j : ℕ) (b : CodeBlock) (d : Departure) → slice_get blocks i ≡ Some b → slice_get b.departures j ≡ Some d → HasEdgeLabels types variables constants entry blocks i b d
