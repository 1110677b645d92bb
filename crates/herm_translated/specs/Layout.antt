-- Layout: the index at which each block begins, and the instructions in order.
use Rattle.std.specs.Prelude.{ℕ, zero, suc, ◌+◌, List, [], ◌∷◌, ◌++◌, map, flat_map, cond}
use Rattle.herm_model.specs.Lists.{total}
use Rattle.herm_model.specs.Types.{TypeTable}
use Rattle.herm_model.specs.Expressions.{Literal}
use Rattle.herm_model.specs.Outcomes.{Outcome, raised, same_outcome}
use Rattle.herm_instructions.specs.Instructions.{Instruction, Step}
use Rattle.herm_instructions.specs.Images.{Landing}
use Rattle.herm_instructions.specs.Effects.{exceptions_of}
use Rattle.herm_translated.specs.Fronts.{front, front_length}
use Rattle.herm_translated.specs.Departures.{Departure, edge_code, edge_length}
use Rattle.herm_translated.specs.CodeBlocks.{CodeBlock}

-- an instruction with its landings
pub record Line : Type 0 where
  pub instruction : Instruction
  pub landings : List Landing

-- the index at which the edge of an outcome begins, where the first of these edges begins at an index
abbrev pub edge_at : ℕ → List Departure → Outcome → ℕ
edge_at at [] o = at
edge_at at (d ∷ ds) o = cond (same_outcome d.outcome o) at (edge_at (at + edge_length d) ds o)

module _ (types : TypeTable) (variables : List ℕ) where
  -- each exception that an instruction can raise lands at the edge of the exception; Code reference, "Landings"
  abbrev pub landings_by : (exit_at : Outcome → ℕ) → Instruction → List Landing
  landings_by exit_at i = map (λ e. record { exception = e; index = exit_at (raised e) }) (exceptions_of types variables i)

  abbrev pub line_by : (exit_at : Outcome → ℕ) → Instruction → Line
  line_by exit_at i = record { instruction = i; landings = landings_by exit_at i }

  module _ (constants : List Literal) where
    -- where the edges of a block begin that begins at an index, and how long it is: its step, its front and its edges
    abbrev pub edges_at : (at : ℕ) → CodeBlock → ℕ
    edges_at at b = at + (1 + front_length types variables constants b.form)

    abbrev pub block_length : CodeBlock → ℕ
    block_length b = 1 + (front_length types variables constants b.form + total edge_length b.departures)

    -- The index of the block at a place, where the first of these blocks begins at an index. Code reference, "Blocks".
    abbrev pub start_from : (first : ℕ) → List CodeBlock → (place : ℕ) → ℕ
    start_from first [] i = first
    start_from first (b ∷ bs) zero = first
    start_from first (b ∷ bs) (suc i) = start_from (first + block_length b) bs i

    -- the index to which an outcome leads within a block that begins at an index
    abbrev pub exit_of : (at : ℕ) → CodeBlock → Outcome → ℕ
    exit_of at b o = edge_at (edges_at at b) b.departures o

    -- The code of a block that begins at an index: its first step, the front of its form, and its edges in the order of its
    -- outcomes. Code reference, "Blocks".
    abbrev pub block_code : (start : ℕ → ℕ) → (at : ℕ) → CodeBlock → List Instruction
    block_code start at b = Step ∷ (front types variables constants b.facts b.statement (at + 1) (exit_of at b) b.form ++ flat_map (edge_code start) b.departures)

    abbrev pub block_lines : (start : ℕ → ℕ) → (at : ℕ) → CodeBlock → List Line
    block_lines start at b = map (line_by (exit_of at b)) (block_code start at b)

    abbrev pub lines_from : (start : ℕ → ℕ) → (at : ℕ) → List CodeBlock → List Line
    lines_from start at [] = []
    lines_from start at (b ∷ bs) = block_lines start at b ++ lines_from start (at + block_length b) bs

    -- The index of each node's block, behind the edge to where the process begins. Code reference, "Blocks".
    abbrev pub start_of : Departure → List CodeBlock → (node : ℕ) → ℕ
    start_of entry blocks n = start_from (edge_length entry) blocks n

    -- the lines of a module: the edge to where the process begins, and then the blocks in order
    abbrev pub lines_of : Departure → List CodeBlock → List Line
    lines_of entry blocks =
        map (line_by (λ o. 0)) (edge_code (start_of entry blocks) entry) ++ lines_from (start_of entry blocks) (edge_length entry) blocks
