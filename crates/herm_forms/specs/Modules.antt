-- A process module made ready to run.
use Rattle.std.specs.Prelude.{ℕ, suc, ◌+◌, List, [], ◌∷◌, ◌++◌}
use Rattle.herm_model.specs.Types.{TypeTable}
use Rattle.herm_model.specs.Statements.{Statement, simple, choosing, repeating, leaving, trying, Block, no_statements, statement, Blocks, no_blocks, block, Handlers, no_handlers, handler, numbers_of, numbers_of_block, Process}
use Rattle.herm_model.specs.Nodes.{Node, process_nodes, entry_of}
use Rattle.herm_model.specs.Targets.{Target}
use Rattle.herm_model.specs.Labels.{Labels}

-- a loop, by its statement's number and how many statements it has, its own counted
pub record Span : Type 0 where
  pub first : ℕ
  pub length : ℕ

-- The loops of a part of the text, from its first number on.
abbrev mutual
  pub loops_of : Statement → (number : ℕ) → List Span
  loops_of (simple form) number = []
  loops_of (choosing form blocks) number = loops_in_blocks blocks (suc number)
  loops_of (repeating form body) number =
      record { first = number; length = suc (numbers_of_block body) } ∷ loops_in body (suc number)
  loops_of leaving number = []
  loops_of (trying body handlers) number =
      loops_in body (suc number) ++ loops_in_handlers handlers (suc number + numbers_of_block body)

  pub loops_in : Block → (number : ℕ) → List Span
  loops_in no_statements number = []
  loops_in (statement s rest) number = loops_of s number ++ loops_in rest (number + numbers_of s)

  pub loops_in_blocks : Blocks → (number : ℕ) → List Span
  loops_in_blocks no_blocks number = []
  loops_in_blocks (block b rest) number = loops_in b number ++ loops_in_blocks rest (number + numbers_of_block b)

  pub loops_in_handlers : Handlers → (number : ℕ) → List Span
  loops_in_handlers no_handlers number = []
  loops_in_handlers (handler e b rest) number = loops_in b number ++ loops_in_handlers rest (number + numbers_of_block b)

-- A process module made ready: its types and variables, where it begins, its nodes and loops, and of each node's
-- place a test for the facts that are held on every control path to it. Language reference, "Processes".
pub record Module : Type 0 where
  pub types : TypeTable
  pub variables : List ℕ
  pub entry : Target
  pub nodes : List Node
  pub loops : List Span
  pub label : Labels

abbrev pub module_of : TypeTable → Process → Labels → Module
module_of types p label = record {
  types = types;
  variables = p.variables;
  entry = entry_of p;
  nodes = process_nodes p;
  loops = loops_in p.body 1;
  label = label;
}
