-- Labels of blocks: what is there at each index that a jump or a landing names.
use Rattle.std.specs.Prelude.{ℕ, suc, ◌+◌, List, [], ◌∷◌, ◌++◌, filter, Bool, true, false, not, ◌||◌, cond, nat_eq}
use Rattle.herm_model.specs.Lists.{any_pass}
use Rattle.herm_model.specs.Paths.{Fact, path_of, is_at_or_below}
use Rattle.herm_model.specs.Types.{TypeTable}
use Rattle.herm_model.specs.Expressions.{Literal}
use Rattle.herm_model.specs.Outcomes.{Outcome, ok, is_true, is_false, turn, done, component, arm, raised}
use Rattle.herm_model.specs.Statements.{Form, For}
use Rattle.herm_model.specs.FactsOfStatements.{makes, kills}
use Rattle.herm_instructions.specs.Labels.{Slot, Label, ListedLabel}
use Rattle.herm_translated.specs.Departures.{Arrival, to_block, to_second_step, to_end, to_end_by, Departure, second_step, edge_length}
use Rattle.herm_translated.specs.CodeBlocks.{CodeBlock, slots_within}
use Rattle.herm_translated.specs.Layout.{block_length, edges_at}

-- a label with an empty stack
abbrev pub label_with : List Fact → List Slot → Label
label_with facts slots = record { stack = []; facts = facts; slots = slots }

abbrev pub listed_with : (index : ℕ) → List Fact → List Slot → ListedLabel
listed_with index facts slots = record { index = index; label = label_with facts slots }

-- The edge of an outcome is the target of a jump or a landing; at the others control goes on to the edge behind the front.
-- Code reference, "Blocks".
abbrev pub is_named : Outcome → Bool
is_named ok = false
is_named is_true = false
is_named is_false = true
is_named turn = false
is_named done = true
is_named (component c) = true
is_named (arm n) = true
is_named (raised e) = true

-- the facts behind an outcome of a form; Language reference, "Held"
abbrev pub facts_after : TypeTable → (variables : List ℕ) → Form → Outcome → List Fact → List Fact
facts_after types variables form o facts = makes types variables form o ++ filter (λ f. not (any_pass (λ p. is_at_or_below p (path_of f)) (kills types variables form o))) facts

-- the edge arrives at the second step of this node's `for`
abbrev pub goes_to_second : (node : ℕ) → Arrival → Bool
goes_to_second i (to_block n) = false
goes_to_second i (to_second_step n) = nat_eq n i
goes_to_second i to_end = false
goes_to_second i (to_end_by e) = false

-- some edge arrives there
abbrev pub comes_again : List CodeBlock → (node : ℕ) → Bool
comes_again blocks i = any_pass (λ (b : CodeBlock). any_pass (λ (d : Departure). goes_to_second i d.arrival) b.departures) blocks

-- the edge arrives at the first step of this node's block
abbrev pub goes_to_first : (node : ℕ) → Arrival → Bool
goes_to_first i (to_block n) = nat_eq n i
goes_to_first i (to_second_step n) = false
goes_to_first i to_end = false
goes_to_first i (to_end_by e) = false

-- some edge arrives there, or that to where the process begins
abbrev pub comes_first : Departure → List CodeBlock → (node : ℕ) → Bool
comes_first entry blocks i = goes_to_first i entry.arrival || any_pass (λ (b : CodeBlock). any_pass (λ (d : Departure). goes_to_first i d.arrival) b.departures) blocks

module _ (types : TypeTable) (variables : List ℕ) where
  -- the slots of a block's edges
  abbrev pub edge_slots : CodeBlock → List Slot
  edge_slots b = slots_within types variables b.statement b.form b.slots

  -- Within a `for`: the second step, where control comes there, and the test behind it. Code reference, "Blocks".
  abbrev pub labels_within : (at : ℕ) → (again : Bool) → CodeBlock → Form → List ListedLabel
  labels_within at again b (For r t) =
      cond again (listed_with (at + second_step) b.facts (edge_slots b) ∷ []) [] ++ listed_with (at + (second_step + 1)) b.facts (edge_slots b) ∷ []
  labels_within at again b form = []

  -- the labels of a block's edges, of which the first begins at an index
  abbrev pub edge_labels : (at : ℕ) → CodeBlock → List Departure → List ListedLabel
  edge_labels at b [] = []
  edge_labels at b (d ∷ ds) =
      cond (is_named d.outcome) (listed_with at (facts_after types variables b.form d.outcome b.facts) (edge_slots b) ∷ []) [] ++ edge_labels (at + edge_length d) b ds

  module _ (constants : List Literal) where
    -- The labels of a block that begins at an index: of its first step those of its node, where an edge leads there, and of its edges what is behind
    -- their outcomes. Code reference, "Labels".
    abbrev pub block_labels : (at : ℕ) → (first again : Bool) → CodeBlock → List ListedLabel
    block_labels at first again b =
        cond first (listed_with at b.facts b.slots ∷ []) [] ++ (labels_within at again b b.form ++ edge_labels (edges_at types variables constants at b) b b.departures)

    -- the labels of blocks from a place and an index on
    abbrev pub labels_from : (first again : ℕ → Bool) → (place at : ℕ) → List CodeBlock → List ListedLabel
    labels_from first again i at [] = []
    labels_from first again i at (b ∷ bs) = block_labels at (first i) (again i) b ++ labels_from first again (suc i) (at + block_length types variables constants b) bs
