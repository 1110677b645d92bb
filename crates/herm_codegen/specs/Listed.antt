-- The labels that are listed for blocks.
use Rattle.std.specs.Prelude.{ℕ, suc, ◌+◌, List, [], ◌∷◌, ◌++◌, map, Bool, true, false, not, cond, filter}
use Rattle.herm_model.specs.Lists.{any_pass}
use Rattle.herm_model.specs.Paths.{Path, Fact, path_of, is_at_or_below}
use Rattle.herm_model.specs.Types.{TypeTable}
use Rattle.herm_model.specs.Statements.{Form}
use Rattle.herm_instructions.specs.Labels.{Slot, ListedLabel}
use Rattle.herm_translated.specs.Departures.{second_step, edge_length}
use Rattle.herm_translated.specs.CodeBlocks.{is_for, slots_within}
use Rattle.herm_translated.specs.BlockLabels.{listed_with, is_named, edge_slots}
use Rattle.herm_code.specs.declared.modules.Label.{Label}
use Rattle.herm_code.specs.View.{label_view}
use Rattle.herm_fronts.specs.Blocks.{MarkedDeparture, marked_view}
use Rattle.herm_fronts.specs.Lengths.{count_front, count_block}
use Rattle.herm_blocks.specs.declared.block.Block.{Block}
use Rattle.herm_blocks.specs.Views.{block_view}

abbrev pub listed_view : ℕ × Label → ListedLabel
listed_view l = record { index = l.0; label = label_view l.1 }

-- the labels within a `for`: of its second step, where control comes there, and of the test behind it
abbrev pub labels_inside : (at : ℕ) → (again : Bool) → List Fact → List Slot → Form → List ListedLabel
labels_inside at again facts slots form =
    cond (is_for form) (cond again (listed_with (at + second_step) facts slots ∷ []) [] ++ listed_with (at + second_step + 1) facts slots ∷ []) []

-- an edge that takes away these paths leaves the fact
abbrev pub is_left : (kills : List Path) → Fact → Bool
is_left kills f = not (any_pass (λ p. is_at_or_below p (path_of f)) kills)

-- the fact, where it is left
abbrev pub fact_left : (kills : List Path) → Fact → List Fact
fact_left kills f = cond (is_left kills f) (f ∷ []) []

-- what an edge makes, and those of these facts that it leaves
abbrev pub facts_behind : (makes : List Fact) → (kills : List Path) → List Fact → List Fact
facts_behind makes kills facts = makes ++ filter (is_left kills) facts

-- the label of an edge that begins at an index, where it is named
abbrev pub edge_label : (at : ℕ) → List Fact → List Slot → MarkedDeparture → List ListedLabel
edge_label at facts slots d = cond (is_named d.departure.outcome) (listed_with at (facts_behind d.makes d.kills facts) slots ∷ []) []

abbrev pub edge_labels_with : (at : ℕ) → List Fact → List Slot → List MarkedDeparture → List ListedLabel
edge_labels_with at facts slots [] = []
edge_labels_with at facts slots (d ∷ ds) = edge_label at facts slots d ++ edge_labels_with (at + edge_length d.departure) facts slots ds

-- the label of a first step, where an edge leads there
abbrev pub first_label : (at : ℕ) → (first : Bool) → List Fact → List Slot → List ListedLabel
first_label at first facts slots = cond first (listed_with at facts slots ∷ []) []

module _ (types : TypeTable) (variables : List ℕ) where
  -- the labels of a block that begins at an index
  abbrev pub keyed_labels : (at : ℕ) → (first again : Bool) → Block → List ListedLabel
  keyed_labels at first again b =
      first_label at first (block_view b).facts (block_view b).slots
      ++ (labels_inside at again (block_view b).facts (edge_slots types variables (block_view b)) (block_view b).form
      ++ edge_labels_with (at + (1 + count_front types variables (block_view b).form)) (block_view b).facts (edge_slots types variables (block_view b)) (map marked_view b.departures.items))

  -- the labels of blocks from a place and an index on
  abbrev pub keyed_labels_from : (first again : ℕ → Bool) → (place at : ℕ) → List Block → List ListedLabel
  keyed_labels_from first again i at [] = []
  keyed_labels_from first again i at (b ∷ bs) = keyed_labels at (first i) (again i) b ++ keyed_labels_from first again (suc i) (at + count_block types variables (block_view b)) bs
