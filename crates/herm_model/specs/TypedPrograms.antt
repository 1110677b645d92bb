-- Typed programs: the rules on the texts of bodies, on processes and on programs.
use Rattle.std.specs.Prelude.{ℕ, ◌<◌, ◌≤◌, List, [], ◌∷◌, ◌++◌, length, Bool, true, false, Some, slice_get, IsTrue, ⊤, ◌≡◌}
use Rattle.herm_model.specs.Lists.{IsIn}
use Rattle.herm_model.specs.Paths.{Fact}
use Rattle.herm_model.specs.Types.{inport, TypeTable, all_parts, variable_paths}
use Rattle.herm_model.specs.Statements.{Statement, simple, choosing, repeating, leaving, trying, Block, no_statements, statement, Blocks, no_blocks, block, Handlers, no_handlers, handler, numbers_of_block, Process, Differ, IsWellFormedBlock}
use Rattle.herm_model.specs.Nodes.{Node, process_nodes}
use Rattle.herm_model.specs.Targets.{node}
use Rattle.herm_model.specs.ControlPaths.{flow_of, IsReached}
use Rattle.herm_model.specs.TypedExpressions.{HasShape}
use Rattle.herm_model.specs.WellFormedTables.{IsType, IsWellFormedTable}
use Rattle.herm_model.specs.TypedStatements.{port_type, IsTypedForm}

-- the greatest numbers of statements and of paths of a process
abbrev pub greatest_statements : ℕ
greatest_statements = 1024

abbrev pub greatest_variable_paths : ℕ
greatest_variable_paths = 4096

-- the number of the type main_start
abbrev pub main_start : ℕ
main_start = 7

-- a statement, and whether it stands inside a loop
pub record Placed : Type 0 where
  pub in_loop : Bool
  pub statement : Statement

-- All statements of a part of the text, in order, compound ones before their parts.
abbrev mutual
  pub placed : (in_loop : Bool) → Statement → List Placed
  placed l (simple form) = record { in_loop = l; statement = simple form } ∷ []
  placed l (choosing form blocks) = record { in_loop = l; statement = choosing form blocks } ∷ placed_in_blocks l blocks
  placed l (repeating form body) = record { in_loop = l; statement = repeating form body } ∷ placed_in true body
  placed l leaving = record { in_loop = l; statement = leaving } ∷ []
  placed l (trying body handlers) = record { in_loop = l; statement = trying body handlers } ∷ (placed_in l body ++ placed_in_handlers l handlers)

  pub placed_in : (in_loop : Bool) → Block → List Placed
  placed_in l no_statements = []
  placed_in l (statement s rest) = placed l s ++ placed_in l rest

  pub placed_in_blocks : (in_loop : Bool) → Blocks → List Placed
  placed_in_blocks l no_blocks = []
  placed_in_blocks l (block b rest) = placed_in l b ++ placed_in_blocks l rest

  pub placed_in_handlers : (in_loop : Bool) → Handlers → List Placed
  placed_in_handlers l no_handlers = []
  placed_in_handlers l (handler e b rest) = placed_in l b ++ placed_in_handlers l rest

-- the exceptions that handlers are for
abbrev pub handled : Handlers → List ℕ
handled no_handlers = []
handled (handler e b rest) = e ∷ handled rest

abbrev pub is_some_block : Blocks → Bool
is_some_block no_blocks = false
is_some_block (block b rest) = true

abbrev pub is_some_handler : Handlers → Bool
is_some_handler no_handlers = false
is_some_handler (handler e b rest) = true

-- A `case` and a `select` have one arm at least. Language reference, "Rules of bodies".
abbrev pub HasArms : Statement → Type 0
HasArms (choosing form blocks) = IsTrue (is_some_block blocks)
HasArms _ = ⊤

-- A `try` has one handler at least, no two for one exception, and each for an exception that there is.
-- Language reference, "Rules of bodies".
abbrev pub HasHandlers : Statement → Type 0
HasHandlers (trying body handlers) = IsTrue (is_some_handler handlers)
HasHandlers _ = ⊤

abbrev pub HasDifferentHandlers : Statement → Type 0
HasDifferentHandlers (trying body handlers) = Differ (handled handlers)
HasDifferentHandlers _ = ⊤

abbrev pub HandlesKnown : (exceptions : ℕ) → Statement → Type 0
HandlesKnown exceptions (trying body handlers) = (e : ℕ) → IsIn e (handled handlers) → e < exceptions
HandlesKnown exceptions _ = ⊤

-- `leave` stands inside a loop. Language reference, "Rules of bodies".
abbrev pub LeavesLoop : (in_loop : Bool) → Statement → Type 0
LeavesLoop in_loop leaving = IsTrue in_loop
LeavesLoop in_loop _ = ⊤

-- it holds of every statement of a body, by whether it stands inside a loop
abbrev pub OfEachStatement : Process → (Bool → Statement → Type 0) → Type 0
OfEachStatement p P = (s : Placed) → IsIn s (placed_in false p.body) → P s.in_loop s.statement

-- A process that keeps the rules, beside this table of types, so many exceptions and these processes: a part for each
-- rule. Language reference, "Typed programs".
pub record IsTypedProcess (exceptions : ℕ) (table : TypeTable) (processes : List Process) (p : Process) : Type 0 where
  -- variable 0 is of an inport type, and each variable of a type that there is
  pub port : (t message : ℕ) × (declared : List Fact) × (slice_get p.variables 0 ≡ Some t) × HasShape table t (inport message declared)
  pub variables_known : (t : ℕ) → IsIn t p.variables → IsType table t
  pub few_paths : length (variable_paths all_parts table p.variables) ≤ greatest_variable_paths
  pub few_statements : numbers_of_block p.body ≤ greatest_statements
  -- the body
  pub blocks : IsWellFormedBlock p.body
  pub arms : OfEachStatement p (λ l s. HasArms s)
  pub handlers : OfEachStatement p (λ l s. HasHandlers s)
  pub handlers_differ : OfEachStatement p (λ l s. HasDifferentHandlers s)
  pub handlers_known : OfEachStatement p (λ l s. HandlesKnown exceptions s)
  pub leaves : OfEachStatement p LeavesLoop
  -- each statement other than `try` is typed, and reached by control
  pub typed : (n : Node) → IsIn n (process_nodes p) → IsTypedForm table p.variables exceptions processes n.form
  pub reached : (i : ℕ) → i < length (process_nodes p) → IsReached (flow_of table p) (node i)

-- A typed program, of these types and processes, of which one is main: its port is of the type main_start.
-- Language reference, "Typed programs".
pub record IsTypedProgram (exceptions : ℕ) (table : TypeTable) (processes : List Process) (main : ℕ) : Type 0 where
  pub types : IsWellFormedTable exceptions table
  pub modules : (p : Process) → IsIn p processes → IsTypedProcess exceptions table processes p
  pub begins : port_type processes main ≡ Some main_start
