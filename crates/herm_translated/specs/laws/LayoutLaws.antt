-- What is claimed of the layout of code: which instruction stands at each index.
use Rattle.std.specs.Prelude.{ℕ, ◌+◌, ◌<◌, List, map, length, Some, option_map, slice_get, ◌≡◌, ◌⊎◌}
use Rattle.herm_model.specs.Lists.{total}
use Rattle.herm_model.specs.Types.{TypeTable}
use Rattle.herm_model.specs.Expressions.{Literal}
use Rattle.herm_model.specs.Statements.{Differ}
use Rattle.herm_instructions.specs.Images.{CodeModule}
use Rattle.herm_translated.specs.Departures.{Departure, edge_code, edge_length}
use Rattle.herm_translated.specs.CodeBlocks.{CodeBlock}
use Rattle.herm_translated.specs.Layout.{landings_by, exit_of, block_length, block_code, start_of}
use Rattle.herm_translated.specs.Translated.{laid_out}

module _ (types : TypeTable) (variables : List ℕ) (constants : List Literal) (entry : Departure) (blocks : List CodeBlock) where
  abbrev pub module_of : CodeModule
  module_of = laid_out types variables constants entry blocks

  -- the index of a node's block
  abbrev pub start : ℕ → ℕ
  start n = start_of types variables constants entry blocks n

  -- the index is so far behind the first of a block
  abbrev pub IsInBlock : (index node distance : ℕ) → CodeBlock → Type 0
  IsInBlock n i k b = (slice_get blocks i ≡ Some b) × (k < block_length types variables constants b) × (n ≡ start i + k)

  -- The code is the edge to where the process begins, and then each node's block in order. Code reference, "Blocks".
  pub record IsLaidOut : Type 0 where
    pub entry_first : (n : ℕ) → n < edge_length entry → slice_get module_of.code n ≡ slice_get (edge_code start entry) n
    pub entry_lands : (n : ℕ) → n < edge_length entry → slice_get module_of.landings n ≡ option_map (landings_by types variables (λ o. 0)) (slice_get (edge_code start entry) n)
    pub blocks_behind : (n i k : ℕ) (b : CodeBlock) → IsInBlock n i k b → slice_get module_of.code n ≡ slice_get (block_code types variables constants start (start i) b) k
    pub landings_behind : (n i k : ℕ) (b : CodeBlock) → IsInBlock n i k b → slice_get module_of.landings n ≡ option_map (landings_by types variables (exit_of types variables constants (start i) b)) (slice_get (block_code types variables constants start (start i) b) k)
    pub nothing_else : (n : ℕ) → n < length module_of.code → (n < edge_length entry) ⊎ ((i k : ℕ) × (b : CodeBlock) × IsInBlock n i k b)
    pub many : length module_of.code ≡ edge_length entry + total (block_length types variables constants) blocks
    pub aligned : length module_of.landings ≡ length module_of.code

  -- In a block whose edges have different outcomes, the edge of each outcome stands at the index to which the outcome leads.
  -- Code reference, "Blocks".
  abbrev pub EdgesAreAtExits : Type 0
  EdgesAreAtExits = (i j k : ℕ) (b : CodeBlock) (d : Departure) → slice_get blocks i ≡ Some b → slice_get b.departures j ≡ Some d → Differ (map (λ (e : Departure). e.outcome) b.departures) → k < edge_length d
      → slice_get module_of.code (exit_of types variables constants (start i) b d.outcome + k) ≡ slice_get (edge_code start d) k

abbrev pub CodeIsLaidOut : Type 0
CodeIsLaidOut = (types : TypeTable) (variables : List ℕ) (constants : List Literal) (entry : Departure) (blocks : List CodeBlock) → IsLaidOut types variables constants entry blocks

abbrev pub EdgesStandAtExits : Type 0
EdgesStandAtExits = (types : TypeTable) (variables : List ℕ) (constants : List Literal) (entry : Departure) (blocks : List CodeBlock) → EdgesAreAtExits types variables constants entry blocks
