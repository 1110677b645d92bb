-- A frame as contracts see it: what a process holds but its position.
use Rattle.std.specs.Prelude.{ℕ, List, Option}
use Rattle.herm_values.specs.declared.value.Value.{Value}
use Rattle.herm_values.specs.declared.work.Work.{Work}
use Rattle.herm_values.specs.declared.work.WorkItem.{WorkItem}

-- what waits on a work list, from its front on
abbrev pub items_of : Work → List WorkItem
items_of w = w.items.items

-- the rows that a loop has yet to visit, under the number of its slot
pub record HeldLoop : Type 0 where
  pub slot : ℕ
  pub rows : List (Option Value)

-- Variables, rows and what waits are those of the code. The names of cells are not kept, but how many
-- were made and finalised, each cut at 2^63. Code reference, "Processes".
pub record HeldFrame : Type 0 where
  pub number : ℕ
  pub variables : List (Option Value)
  pub loops : List HeldLoop
  pub work : List WorkItem
  pub call : Option ℕ
  pub calls : ℕ
  pub steps : ℕ
  pub actions : ℕ
  pub made : ℕ
  pub finalised : ℕ
