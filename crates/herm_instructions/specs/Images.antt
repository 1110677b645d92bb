-- Code modules and images.
use Rattle.std.specs.Prelude.{ℕ, List, find, nat_eq, Option, option_map, option_and_then, slice_get}
use Rattle.herm_model.specs.Types.{TypeTable}
use Rattle.herm_model.specs.Expressions.{Literal}
use Rattle.herm_instructions.specs.Instructions.{Instruction}
use Rattle.herm_instructions.specs.Labels.{ListedLabel}

-- where an exception of an instruction leads; Code reference, "Landings"
pub record Landing : Type 0 where
  pub exception : ℕ
  pub index : ℕ

-- The code of a process: the types of its variables, of which variable 0 is its port; its instructions by index; the landings
-- of each instruction, by the same index; and the labels of the indices that are targets of jumps or landings, by rising
-- index. Code reference, "Modules and images".
pub record CodeModule : Type 0 where
  pub variables : List ℕ
  pub code : List Instruction
  pub landings : List (List Landing)
  pub labels : List ListedLabel

-- What a compiler makes of a program: a code module for each process module, by number; the constants of all, which are
-- literals; and the types. Code reference, "Modules and images".
pub record Image : Type 0 where
  pub modules : List CodeModule
  pub constants : List Literal
  pub types : TypeTable

-- the instruction at an index
abbrev pub instruction_at : CodeModule → ℕ → Option Instruction
instruction_at m index = slice_get m.code index

-- where an exception leads that the instruction at an index raises; Code reference, "Landings"
abbrev pub landing_of : CodeModule → ℕ → (exception : ℕ) → Option ℕ
landing_of m index e =
    option_map (λ (l : Landing). l.index) (option_and_then (find (λ (l : Landing). nat_eq l.exception e)) (slice_get m.landings index))
