-- Nodes: the flat list that a process's body is, with what stands around each.
use Rattle.std.specs.Prelude.{ℕ, ◌+◌, List, [], ◌∷◌, ◌++◌, map}
use Rattle.herm_model.specs.Statements.{Form, Leave, Statement, simple, choosing, repeating, leaving, trying, Block, no_statements, statement, Blocks, no_blocks, block, Handlers, no_handlers, handler, numbers_of, numbers_of_block, nodes_of, nodes_of_block, Process}
use Rattle.herm_model.specs.Outcomes.{Outcome, normal_outcomes}
use Rattle.herm_model.specs.Targets.{Target, node, end}
use Rattle.herm_model.specs.Handlers.{Catch}

-- What the text around a statement decides: where control goes behind the statement; the handlers within
-- reach, the nearest first; and where control goes behind the nearest loop.
pub record Surroundings : Type 0 where
  pub behind : Target
  pub catches : List Catch
  pub exit : Target

-- A node: a statement other than `try` by its number and form, where its normal outcomes lead in their
-- order, and the handlers within its reach. Language reference, "Control".
pub record Node : Type 0 where
  pub number : ℕ
  pub form : Form
  pub leads : List Target
  pub catches : List Catch

-- Where control goes that goes to a statement or a block, whose nodes stand from a place on: to its first
-- node. Going to a `try` is going to its block. What is empty leads to what is behind it.
-- Language reference, "Control".
abbrev mutual
  pub start : Statement → ℕ → Target → Target
  start (simple form) from behind = node from
  start (choosing form _) from behind = node from
  start (repeating form body) from behind = node from
  start leaving from behind = node from
  start (trying body _) from behind = start_of_block body from behind

  pub start_of_block : Block → ℕ → Target → Target
  start_of_block no_statements from behind = behind
  start_of_block (statement s rest) from behind = start s from (start_of_block rest (from + nodes_of s) behind)

-- where each of the blocks of a statement begins
abbrev pub starts : Blocks → ℕ → Target → List Target
starts no_blocks from behind = []
starts (block b rest) from behind = start_of_block b from behind ∷ starts rest (from + nodes_of_block b) behind

-- the handlers of a `try`, whose nodes stand from a place on
abbrev pub catches_of : Handlers → ℕ → Target → List Catch
catches_of no_handlers from behind = []
catches_of (handler e b rest) from behind =
    record { exception = e; target = start_of_block b from behind } ∷ catches_of rest (from + nodes_of_block b) behind

-- The nodes of a part of the text, in order, from its first number, its first place and its surroundings.
-- Behind the last statement of a block of `case`, `select`, `if` or `try`, or of a handler, comes what is
-- behind that statement; behind the last one of a loop's block, the loop. An exception of the block of a `try`
-- finds its handlers first; one of a handler finds only those further out. Language reference, "Control".
abbrev mutual
  pub nodes : Statement → (number from : ℕ) → Surroundings → List Node
  nodes (simple form) number from s =
      record { number = number; form = form; leads = map (λ (o : Outcome). s.behind) (normal_outcomes form); catches = s.catches } ∷ []
  nodes (choosing form blocks) number from s =
      record { number = number; form = form; leads = starts blocks (from + 1) s.behind; catches = s.catches }
      ∷ nodes_of_choices blocks (number + 1) (from + 1) s
  nodes (repeating form body) number from s =
      record { number = number; form = form; leads = start_of_block body (from + 1) (node from) ∷ s.behind ∷ []; catches = s.catches }
      ∷ nodes_in body (number + 1) (from + 1) (record { behind = node from; catches = s.catches; exit = s.behind })
  nodes leaving number from s =
      record { number = number; form = Leave; leads = s.exit ∷ []; catches = s.catches } ∷ []
  nodes (trying body handlers) number from s =
      nodes_in body (number + 1) from (record s { catches = catches_of handlers (from + nodes_of_block body) s.behind ++ s.catches })
      ++ nodes_of_catches handlers (number + 1 + numbers_of_block body) (from + nodes_of_block body) s

  pub nodes_in : Block → (number from : ℕ) → Surroundings → List Node
  nodes_in no_statements number from s = []
  nodes_in (statement first rest) number from s =
      nodes first number from (record s { behind = start_of_block rest (from + nodes_of first) s.behind })
      ++ nodes_in rest (number + numbers_of first) (from + nodes_of first) s

  pub nodes_of_choices : Blocks → (number from : ℕ) → Surroundings → List Node
  nodes_of_choices no_blocks number from s = []
  nodes_of_choices (block b rest) number from s =
      nodes_in b number from s ++ nodes_of_choices rest (number + numbers_of_block b) (from + nodes_of_block b) s

  pub nodes_of_catches : Handlers → (number from : ℕ) → Surroundings → List Node
  nodes_of_catches no_handlers number from s = []
  nodes_of_catches (handler e b rest) number from s =
      nodes_in b number from s ++ nodes_of_catches rest (number + numbers_of_block b) (from + nodes_of_block b) s

-- The nodes of a process, and where it begins. Behind the last statement of the body comes the end.
-- Language reference, "Control".
abbrev pub process_nodes : Process → List Node
process_nodes p = nodes_in p.body 1 0 (record { behind = end; catches = []; exit = end })

abbrev pub entry_of : Process → Target
entry_of p = start_of_block p.body 0 end
