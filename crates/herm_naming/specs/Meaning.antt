-- What process modules mean: the processes of the model, every name replaced by its number.
use Rattle.std.specs.Prelude.{ℕ, List, [], ◌∷◌, ◌++◌, map, codes}
use Rattle.herm_model.specs.Statements as model
use Rattle.herm_syntax.specs.Trees.{Letters, Move, Unite, Dissolve, Wrap, Insert, Connect, Send, Receive, New, Discard, Reveal, Remove, Get, Statement, Assign, Unwrap, Call, Return, ReturnBy, Create, Raise, Leave, Case, For, Select, If, While, Try, Statements, NoStatement, Further, Arms, NoArm, Arm, PortArms, NoPortArm, PortArm, Otherwise, NoElse, Else, Field, Module, Definitions, Process}
use Rattle.herm_meaning.specs.Names.{NamedTable}
use Rattle.herm_naming.specs.Numbers.{place_of, Scope, type_number, exception_number, part_number, path_number, type_seen, without_last, component_number, atom_number, expression_number}

abbrev pub process_number : Scope → Letters → ℕ
process_number s name = place_of name s.processes

-- the components that the arms of a `case` name
abbrev pub arm_names : Arms → List Letters
arm_names NoArm = []
arm_names (Arm name body rest) = name ∷ arm_names rest

-- the arms of a `select` without their blocks
abbrev pub arm_forms : Scope → PortArms → List model.Arm
arm_forms s NoPortArm = []
arm_forms s (PortArm port target body rest) = record { target = path_number s target; port = path_number s port } ∷ arm_forms s rest

-- A statement: each name by its number. A component is written as the last part of a path, and an `if` without `else`
-- has an empty second block. Language reference, "Statements".
abbrev mutual
  pub statement_number : Scope → Statement → model.Statement
  statement_number s (Assign x e) = model.simple (model.Assign (path_number s x) (expression_number s e))
  statement_number s (Move y x) = model.simple (model.Move (path_number s y) (path_number s x))
  statement_number s (Unite c y) = model.simple (model.Unite (path_number s (without_last c)) (component_number s c) (path_number s y))
  statement_number s (Dissolve c y) = model.simple (model.Dissolve (path_number s (without_last c)) (component_number s c) (path_number s y))
  statement_number s (Wrap y p) = model.simple (model.Wrap (path_number s y) (path_number s p))
  statement_number s (Insert r t) = model.simple (model.Insert (path_number s r) (path_number s t))
  statement_number s (Connect o i) = model.simple (model.Connect (path_number s o) (path_number s i))
  statement_number s (Send x o) = model.simple (model.Send (path_number s x) (path_number s o))
  statement_number s (Receive x i) = model.simple (model.Receive (path_number s x) (path_number s i))
  statement_number s (New x) = model.simple (model.New (path_number s x))
  statement_number s (Discard x) = model.simple (model.Discard (path_number s x))
  statement_number s (Reveal c) = model.simple (model.Reveal (path_number s (without_last c)) (component_number s c))
  statement_number s (Remove r t keys) = model.simple (model.Remove (path_number s r) (path_number s t) (map (atom_number s) keys))
  statement_number s (Get r t keys) = model.simple (model.Get (path_number s r) (path_number s t) (map (atom_number s) keys))
  statement_number s (Unwrap p name y) = model.simple (model.Unwrap (path_number s p) (type_number s.known name) (path_number s y))
  statement_number s (Call o arguments) = model.simple (model.Call (path_number s o) (map (atom_number s) arguments))
  statement_number s (Return m) = model.simple (model.Return (path_number s m))
  statement_number s (ReturnBy m name) = model.simple (model.ReturnBy (path_number s m) (exception_number s.known name))
  statement_number s (Create o name) = model.simple (model.Create (path_number s o) (process_number s name))
  statement_number s (Raise name) = model.simple (model.Raise (exception_number s.known name))
  statement_number s Leave = model.leaving
  statement_number s (Case v arms) = model.choosing (model.Case (path_number s v) (map (part_number s.known (type_seen s (path_number s v))) (arm_names arms))) (arm_blocks s arms)
  statement_number s (For r t body) = model.repeating (model.For (path_number s r) (path_number s t)) (block_number s body)
  statement_number s (Select arms) = model.choosing (model.Select (arm_forms s arms)) (port_arm_blocks s arms)
  statement_number s (If e body other) = model.choosing (model.If (expression_number s e)) (model.block (block_number s body) (model.block (otherwise_number s other) model.no_blocks))
  statement_number s (While e body) = model.repeating (model.While (expression_number s e)) (block_number s body)
  statement_number s (Try body arms) = model.trying (block_number s body) (handlers_number s arms)

  pub block_number : Scope → Statements → model.Block
  block_number s NoStatement = model.no_statements
  block_number s (Further first rest) = model.statement (statement_number s first) (block_number s rest)

  pub arm_blocks : Scope → Arms → model.Blocks
  arm_blocks s NoArm = model.no_blocks
  arm_blocks s (Arm name body rest) = model.block (block_number s body) (arm_blocks s rest)

  pub port_arm_blocks : Scope → PortArms → model.Blocks
  port_arm_blocks s NoPortArm = model.no_blocks
  port_arm_blocks s (PortArm port target body rest) = model.block (block_number s body) (port_arm_blocks s rest)

  pub otherwise_number : Scope → Otherwise → model.Block
  otherwise_number s NoElse = model.no_statements
  otherwise_number s (Else body) = block_number s body

  pub handlers_number : Scope → Arms → model.Handlers
  handlers_number s NoArm = model.no_handlers
  handlers_number s (Arm name body rest) = model.handler (exception_number s.known name) (block_number s body) (handlers_number s rest)

-- a process module as it is written: its name, its port, its variables and its body
pub record ProcessText : Type 0 where
  pub name : Letters
  pub port : Field
  pub variables : List Field
  pub body : Statements

-- the process that a module is, if it is one
abbrev pub process_in : Module → List ProcessText
process_in (Definitions name items) = []
process_in (Process name port variables body) = record { name = name; port = port; variables = variables; body = body } ∷ []

-- the processes of a list of modules, in order
abbrev pub processes_in : List Module → List ProcessText
processes_in [] = []
processes_in (m ∷ modules) = process_in m ++ processes_in modules

-- the declarations of a process, the port first
abbrev pub declarations : ProcessText → List Field
declarations p = p.port ∷ p.variables

-- What is known within a process of these processes. Language reference, "Processes".
abbrev pub scope_of : NamedTable → List ProcessText → ProcessText → Scope
scope_of known all p = record {
  known = known;
  variables = map (λ (d : Field). d.0) (declarations p);
  types = map (λ (d : Field). type_number known d.1) (declarations p);
  processes = map (λ (q : ProcessText). q.name) all;
  ports = map (λ (q : ProcessText). type_number known q.port.1) all;
}

abbrev pub process_meaning : NamedTable → List ProcessText → ProcessText → model.Process
process_meaning known all p = record { variables = (scope_of known all p).types; body = block_number (scope_of known all p) p.body }

-- The processes that modules mean, and the number of `main`. Language reference, "Processes".
abbrev pub meaning : NamedTable → List Module → List model.Process
meaning known modules = map (process_meaning known (processes_in modules)) (processes_in modules)

abbrev pub main_name : Letters
main_name = codes "main"

abbrev pub main_number : List Module → ℕ
main_number modules = place_of main_name (map (λ (q : ProcessText). q.name) (processes_in modules))
