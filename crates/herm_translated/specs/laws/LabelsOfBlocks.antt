-- What is claimed of the labels of laid out code: which label stands at each index.
use Rattle.std.specs.Prelude.{ℕ, ◌+◌, ◌<◌, List, map, cond, Some, None, slice_get, ◌≡◌}
use Rattle.herm_model.specs.Types.{TypeTable}
use Rattle.herm_model.specs.Expressions.{Literal}
use Rattle.herm_model.specs.Statements.{Differ}
use Rattle.herm_model.specs.laws.FlowLaws.{Rise}
use Rattle.herm_instructions.specs.Labels.{listed_at}
use Rattle.herm_instructions.specs.GoodCode.{listed_indices}
use Rattle.herm_translated.specs.Fronts.{front_length}
use Rattle.herm_translated.specs.Departures.{Departure, edge_length}
use Rattle.herm_translated.specs.CodeBlocks.{CodeBlock}
use Rattle.herm_translated.specs.Layout.{exit_of}
use Rattle.herm_translated.specs.BlockLabels.{label_with, is_named, facts_after, comes_first, comes_again, edge_slots, labels_within}
use Rattle.herm_translated.specs.laws.LayoutLaws.{module_of, start, IsInBlock}

module _ (types : TypeTable) (variables : List ℕ) (constants : List Literal) (entry : Departure) (blocks : List CodeBlock) where
  -- Labels are listed by rising index: at the first step of each block that an edge leads to that of its node; within a front those of a `for` alone; and at
  -- an edge what is held behind its outcome, where the edge is named. None is listed along edges, nor on the edge to where the process begins.
  -- Code reference, "Blocks".
  pub record AreBlockLabels : Type 0 where
    pub rise : Rise (listed_indices (module_of types variables constants entry blocks))
    pub entry_none : (n : ℕ) → n < edge_length entry → listed_at (module_of types variables constants entry blocks).labels n ≡ None
    pub first : (i : ℕ) (b : CodeBlock) → slice_get blocks i ≡ Some b → listed_at (module_of types variables constants entry blocks).labels (start types variables constants entry blocks i) ≡ cond (comes_first entry blocks i) (Some (label_with b.facts b.slots)) None
    pub within : (n i k : ℕ) (b : CodeBlock) → IsInBlock types variables constants entry blocks n i k b → 0 < k → k < 1 + front_length types variables constants b.form
        → listed_at (module_of types variables constants entry blocks).labels n ≡ listed_at (labels_within types variables (start types variables constants entry blocks i) (comes_again blocks i) b b.form) n
    pub edges : (i j : ℕ) (b : CodeBlock) (d : Departure) → slice_get blocks i ≡ Some b → slice_get b.departures j ≡ Some d → Differ (map (λ (e : Departure). e.outcome) b.departures)
        → listed_at (module_of types variables constants entry blocks).labels (exit_of types variables constants (start types variables constants entry blocks i) b d.outcome)
        ≡ cond (is_named d.outcome) (Some (label_with (facts_after types variables b.form d.outcome b.facts) (edge_slots types variables b))) None
    pub along : (i j k : ℕ) (b : CodeBlock) (d : Departure) → slice_get blocks i ≡ Some b → slice_get b.departures j ≡ Some d → Differ (map (λ (e : Departure). e.outcome) b.departures) → 0 < k → k < edge_length d
        → listed_at (module_of types variables constants entry blocks).labels (exit_of types variables constants (start types variables constants entry blocks i) b d.outcome + k) ≡ None

abbrev pub BlocksAreLabelled : Type 0
BlocksAreLabelled = (types : TypeTable) (variables : List ℕ) (constants : List Literal) (entry : Departure) (blocks : List CodeBlock) → AreBlockLabels types variables constants entry blocks
