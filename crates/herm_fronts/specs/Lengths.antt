-- How long blocks are, whatever the constants and the indices, and where they begin.
use Rattle.std.specs.Prelude.{ℕ, ◌+◌, List, [], ◌∷◌, length}
use Rattle.herm_model.specs.Lists.{total}
use Rattle.herm_model.specs.Types.{TypeTable}
use Rattle.herm_model.specs.Statements.{Form}
use Rattle.herm_instructions.specs.Instructions.{Instruction, Jump}
use Rattle.herm_translated.specs.Departures.{edge_length}
use Rattle.herm_translated.specs.CodeBlocks.{CodeBlock}
use Rattle.herm_fronts.specs.Forms.{front_operands, count_behind}

module _ (types : TypeTable) (variables : List ℕ) where
  abbrev pub count_front : Form → ℕ
  count_front form = length (front_operands types variables form) + count_behind form

  abbrev pub count_block : CodeBlock → ℕ
  count_block b = 1 + (count_front b.form + total edge_length b.departures)

-- the index that an instruction goes to, or nought
abbrev pub index_in : Instruction → ℕ
index_in (Jump n) = n
index_in i = 0

-- the indices at which blocks of these lengths begin, and the one behind the last
abbrev pub starts_from : (first : ℕ) → (lengths : List ℕ) → List ℕ
starts_from first [] = []
starts_from first (n ∷ lengths) = first ∷ starts_from (first + n) lengths

abbrev pub end_from : (first : ℕ) → (lengths : List ℕ) → ℕ
end_from first [] = first
end_from first (n ∷ lengths) = end_from (first + n) lengths
