-- The point at which a part of the text begins.
use Rattle.std.specs.Prelude.{ℕ, ◌+◌, Option, Some, None}
use Rattle.herm_model.specs.Statements.{Statement, simple, choosing, repeating, leaving, trying, Block, no_statements, statement, nodes_of}

-- what an option holds, or else another option
abbrev pub or_else : Option ℕ → Option ℕ → Option ℕ
or_else None other = other
or_else (Some n) other = Some n

-- The place of the first point to which control goes that goes to a statement or a block, whose points stand from a place on;
-- none where it goes past all of it.
abbrev mutual
  pub first_node : Statement → ℕ → Option ℕ
  first_node (simple form) from = Some from
  first_node (choosing form _) from = Some from
  first_node (repeating form body) from = Some from
  first_node leaving from = Some from
  first_node (trying body _) from = first_in_block body from

  pub first_in_block : Block → ℕ → Option ℕ
  first_in_block no_statements from = None
  first_in_block (statement s rest) from = or_else (first_node s from) (first_in_block rest (from + nodes_of s))
