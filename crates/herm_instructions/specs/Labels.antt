-- Labels: what is there at an index of code.
use Rattle.std.specs.Prelude.{ℕ, List, find, nat_eq, Option, option_map}
use Rattle.herm_model.specs.Paths.{Fact}

-- the slot of a loop, and the type of its rows
pub record Slot : Type 0 where
  pub number : ℕ
  pub row : ℕ

-- What is there at an index: the types of the values on the stack, the last pushed one first; the facts of the variables; and
-- the slots of the loops around the index. Code reference, "Labels".
pub record Label : Type 0 where
  pub stack : List ℕ
  pub facts : List Fact
  pub slots : List Slot

-- a label that a module lists, with its index
pub record ListedLabel : Type 0 where
  pub index : ℕ
  pub label : Label

-- the label that is listed for an index, if one is
abbrev pub listed_at : List ListedLabel → ℕ → Option Label
listed_at labels index = option_map (λ (l : ListedLabel). l.label) (find (λ (l : ListedLabel). nat_eq l.index index) labels)
