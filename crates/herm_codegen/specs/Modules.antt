-- The code module that is written of an edge to where a process begins, and of blocks.
use Rattle.std.specs.Prelude.{ℕ, List, [], ◌++◌, map, get_or}
use Rattle.herm_model.specs.Types.{TypeTable}
use Rattle.herm_model.specs.Expressions.{Literal}
use Rattle.herm_instructions.specs.Images.{CodeModule}
use Rattle.herm_instructions.specs.Labels.{ListedLabel}
use Rattle.herm_translated.specs.Departures.{Departure, edge_code, edge_length}
use Rattle.herm_translated.specs.CodeBlocks.{CodeBlock}
use Rattle.herm_translated.specs.Layout.{Line, edge_at, line_by}
use Rattle.herm_fronts.specs.Lengths.{count_block, starts_from, end_from}
use Rattle.herm_blocks.specs.declared.block.Block.{Block}
use Rattle.herm_blocks.specs.Views.{block_view}
use Rattle.herm_codegen.specs.Arrivals.{all_marks, is_marked_at}
use Rattle.herm_codegen.specs.Emitted.{keyed_lines_from}
use Rattle.herm_codegen.specs.Listed.{keyed_labels_from}

module _ (types : TypeTable) (variables : List ℕ) where
  -- the index at which a block begins
  abbrev pub keyed_start : Departure → List CodeBlock → (node : ℕ) → ℕ
  keyed_start entry blocks n = get_or (starts_from (edge_length entry) (map (count_block types variables) blocks)) n (end_from (edge_length entry) (map (count_block types variables) blocks))

  -- the lines of the edge to where a process begins, which no exception leaves
  abbrev pub entry_lines : (start : ℕ → ℕ) → Departure → List Line
  entry_lines start entry = map (line_by types variables (edge_at 0 [])) (edge_code start entry)

  -- the labels of all blocks
  abbrev pub all_labels : Departure → List Block → List ListedLabel
  all_labels entry blocks =
      keyed_labels_from types variables (is_marked_at (all_marks entry (map block_view blocks)).first) (is_marked_at (all_marks entry (map block_view blocks)).again) 0 (edge_length entry) blocks

  module _ (constants : List Literal) where
    abbrev pub all_lines : Departure → List CodeBlock → List Line
    all_lines entry blocks = entry_lines (keyed_start entry blocks) entry ++ keyed_lines_from types variables constants (keyed_start entry blocks) (edge_length entry) blocks

    abbrev pub keyed_module : Departure → List Block → CodeModule
    keyed_module entry blocks = record {
      variables = variables;
      code = map (λ (l : Line). l.instruction) (all_lines entry (map block_view blocks));
      landings = map (λ (l : Line). l.landings) (all_lines entry (map block_view blocks));
      labels = all_labels entry blocks;
    }
