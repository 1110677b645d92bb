-- Statements: what each form says, and the tree of blocks in which they stand.
use Rattle.std.specs.Prelude.{◌≡◌, ℕ, ◌+◌, List, [], ◌∷◌, length, ⊤}
use Rattle.herm_model.specs.Lists.{IsIn}
use Rattle.herm_model.specs.Paths.{Path}
use Rattle.herm_model.specs.Expressions.{Expression, Atom}

-- An arm of a `select`: the message's target and the port that it is received from.
pub record Arm : Type 0 where
  pub target : Path
  pub port : Path

-- What a statement says, without the blocks inside it. Paths stand in the order in which they are
-- written; a component, a type, an exception and a process are numbers. Language reference, "Statements".
pub data Form : Type 0 where
  Assign : (target : Path) → Expression → Form
  Move : (source target : Path) → Form
  New : (target : Path) → Form
  Discard : (source : Path) → Form
  Unite : (target : Path) → (component : ℕ) → (source : Path) → Form
  Dissolve : (source : Path) → (component : ℕ) → (target : Path) → Form
  Reveal : (path : Path) → (component : ℕ) → Form
  Case : (path : Path) → (components : List ℕ) → Form
  Wrap : (source target : Path) → Form
  Unwrap : (source : Path) → (type : ℕ) → (target : Path) → Form
  Insert : (source table : Path) → Form
  Remove : (target table : Path) → (keys : List Atom) → Form
  Get : (target table : Path) → (keys : List Atom) → Form
  For : (target table : Path) → Form
  Connect : (target port : Path) → Form
  Send : (source port : Path) → Form
  Receive : (target port : Path) → Form
  Select : List Arm → Form
  Call : (port : Path) → (arguments : List Atom) → Form
  Return : (source : Path) → Form
  ReturnBy : (source : Path) → (exception : ℕ) → Form
  Create : (target : Path) → (process : ℕ) → Form
  If : Expression → Form
  While : Expression → Form
  Raise : (exception : ℕ) → Form
  Leave : Form

-- A statement is one form alone; a form that chooses a block (`case`, `select`, `if`), with these blocks in
-- order; a form that repeats its block (`while`, `for`); `leave`; or `try`, which is no step of its own: a
-- block and, by exception, its handlers. An `if` without `else` has an empty second block.
-- Language reference, "Statements".
mutual
  pub data Statement : Type 0 where
    simple : Form → Statement
    choosing : Form → Blocks → Statement
    repeating : Form → Block → Statement
    leaving : Statement
    trying : Block → Handlers → Statement

  pub data Block : Type 0 where
    no_statements : Block
    statement : Statement → Block → Block

  pub data Blocks : Type 0 where
    no_blocks : Blocks
    block : Block → Blocks → Blocks

  pub data Handlers : Type 0 where
    no_handlers : Handlers
    handler : (exception : ℕ) → Block → Handlers → Handlers

-- A process: the types of its variables, of which variable 0 is its port, and its body.
-- Language reference, "Processes".
pub record Process : Type 0 where
  pub variables : List ℕ
  pub body : Block

-- How many numbers a part of the text takes: each statement has one, `try` too. Language reference, "Statements".
abbrev mutual
  pub numbers_of : Statement → ℕ
  numbers_of (simple form) = 1
  numbers_of (choosing form blocks) = 1 + numbers_of_blocks blocks
  numbers_of (repeating form body) = 1 + numbers_of_block body
  numbers_of leaving = 1
  numbers_of (trying body handlers) = 1 + (numbers_of_block body + numbers_of_handlers handlers)

  pub numbers_of_block : Block → ℕ
  numbers_of_block no_statements = 0
  numbers_of_block (statement s rest) = numbers_of s + numbers_of_block rest

  pub numbers_of_blocks : Blocks → ℕ
  numbers_of_blocks no_blocks = 0
  numbers_of_blocks (block b rest) = numbers_of_block b + numbers_of_blocks rest

  pub numbers_of_handlers : Handlers → ℕ
  numbers_of_handlers no_handlers = 0
  numbers_of_handlers (handler e b rest) = numbers_of_block b + numbers_of_handlers rest

-- How many nodes it has: each statement but `try` is one.
abbrev mutual
  pub nodes_of : Statement → ℕ
  nodes_of (simple form) = 1
  nodes_of (choosing form blocks) = 1 + nodes_of_blocks blocks
  nodes_of (repeating form body) = 1 + nodes_of_block body
  nodes_of leaving = 1
  nodes_of (trying body handlers) = nodes_of_block body + nodes_of_handlers handlers

  pub nodes_of_block : Block → ℕ
  nodes_of_block no_statements = 0
  nodes_of_block (statement s rest) = nodes_of s + nodes_of_block rest

  pub nodes_of_blocks : Blocks → ℕ
  nodes_of_blocks no_blocks = 0
  nodes_of_blocks (block b rest) = nodes_of_block b + nodes_of_blocks rest

  pub nodes_of_handlers : Handlers → ℕ
  nodes_of_handlers no_handlers = 0
  nodes_of_handlers (handler e b rest) = nodes_of_block b + nodes_of_handlers rest

-- how control leaves a form: on in one way or by an exception, into one of so many blocks, into the block of a loop, or
-- out of a loop
pub data Branching : Type 0 where
  goes_on repeats leaves : Branching
  chooses : (blocks : ℕ) → Branching

abbrev pub branching_of : Form → Branching
branching_of (Case v components) = chooses (length components)
branching_of (Select arms) = chooses (length arms)
branching_of (If e) = chooses 2
branching_of (For r t) = repeats
branching_of (While e) = repeats
branching_of Leave = leaves
branching_of _ = goes_on

abbrev pub count_blocks : Blocks → ℕ
count_blocks no_blocks = 0
count_blocks (block b rest) = 1 + count_blocks rest

-- no element comes again
abbrev pub Differ : {X : Type 0} → List X → Type 0
Differ [] = ⊤
Differ (x ∷ xs) = (IsIn x xs → ⊥) × Differ xs

-- a `case` names no component twice
abbrev pub HasDifferentArms : Form → Type 0
HasDifferentArms (Case v components) = Differ components
HasDifferentArms _ = ⊤

-- Each form stands with the blocks that belong to it: a `case` has a block for each component that it names, all
-- different, a `select` one for each arm, an `if` two. Language reference, "Statements".
abbrev mutual
  pub IsWellFormed : Statement → Type 0
  IsWellFormed (simple form) = branching_of form ≡ goes_on
  IsWellFormed (choosing form blocks) = (branching_of form ≡ chooses (count_blocks blocks)) × HasDifferentArms form × AreWellFormed blocks
  IsWellFormed (repeating form body) = (branching_of form ≡ repeats) × IsWellFormedBlock body
  IsWellFormed leaving = ⊤
  IsWellFormed (trying body handlers) = IsWellFormedBlock body × AreWellFormedHandlers handlers

  pub IsWellFormedBlock : Block → Type 0
  IsWellFormedBlock no_statements = ⊤
  IsWellFormedBlock (statement s rest) = IsWellFormed s × IsWellFormedBlock rest

  pub AreWellFormed : Blocks → Type 0
  AreWellFormed no_blocks = ⊤
  AreWellFormed (block b rest) = IsWellFormedBlock b × AreWellFormed rest

  pub AreWellFormedHandlers : Handlers → Type 0
  AreWellFormedHandlers no_handlers = ⊤
  AreWellFormedHandlers (handler e b rest) = IsWellFormedBlock b × AreWellFormedHandlers rest
