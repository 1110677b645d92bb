-- What is written for blocks, line by line.
use Rattle.std.specs.Prelude.{◌≡◌, ℕ, ◌+◌, List, [], ◌∷◌, ◌++◌, map, flat_map}
use Rattle.herm_model.specs.Types.{TypeTable}
use Rattle.herm_model.specs.Expressions.{Literal}
use Rattle.herm_model.specs.Outcomes.{Outcome}
use Rattle.herm_instructions.specs.Instructions.{Instruction, Step}
use Rattle.herm_translated.specs.Departures.{edge_code}
use Rattle.herm_translated.specs.CodeBlocks.{CodeBlock}
use Rattle.herm_translated.specs.Layout.{Line, edge_at, line_by}
use Rattle.herm_code.specs.View.{instr_view}
use Rattle.herm_fronts.specs.Blocks.{landings_view}
use Rattle.herm_fronts.specs.Operands.{instruction_of}
use Rattle.herm_fronts.specs.Forms.{front_operands, behind_operands}
use Rattle.herm_fronts.specs.Lengths.{count_front, count_block}
use Rattle.herm_codegen.specs.declared.lines.Lines.{Lines}

-- these lines were written behind what was there
pub record AreAppended (lines : List Line) (old new : Lines) : Type 0 where
  pub code_is : map instr_view new.code.items ≡ map instr_view old.code.items ++ map (λ (l : Line). l.instruction) lines
  pub landings_are : map (λ ls. landings_view ls.items) new.landings.items ≡ map (λ ls. landings_view ls.items) old.landings.items ++ map (λ (l : Line). l.landings) lines

module _ (types : TypeTable) (variables : List ℕ) where
  -- how long the fronts of blocks are
  abbrev pub fronts_in : List CodeBlock → List ℕ
  fronts_in blocks = map (λ (b : CodeBlock). count_front types variables b.form) blocks

  -- the index to which an outcome leads within a block that begins at an index
  abbrev pub keyed_exit : (at : ℕ) → CodeBlock → Outcome → ℕ
  keyed_exit at b o = edge_at (at + (1 + count_front types variables b.form)) b.departures o

  module _ (constants : List Literal) where
    -- the step and the front of a block, whose outcomes lead to these indices
    abbrev pub keyed_front : (at : ℕ) → (exit_at : Outcome → ℕ) → CodeBlock → List Instruction
    keyed_front at exit_at b = Step ∷ (map (instruction_of constants) (front_operands types variables b.form) ++ behind_operands types variables b.facts b.statement (at + 1) exit_at b.form)

    abbrev pub keyed_code : (start : ℕ → ℕ) → (at : ℕ) → (exit_at : Outcome → ℕ) → CodeBlock → List Instruction
    keyed_code start at exit_at b = keyed_front at exit_at b ++ flat_map (edge_code start) b.departures

    abbrev pub keyed_lines : (start : ℕ → ℕ) → (at : ℕ) → CodeBlock → List Line
    keyed_lines start at b = map (line_by types variables (keyed_exit at b)) (keyed_code start at (keyed_exit at b) b)

    abbrev pub keyed_lines_from : (start : ℕ → ℕ) → (at : ℕ) → List CodeBlock → List Line
    keyed_lines_from start at [] = []
    keyed_lines_from start at (b ∷ bs) = keyed_lines start at b ++ keyed_lines_from start (at + count_block types variables b) bs
