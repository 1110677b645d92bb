-- What is proved of typed statements and processes: their types, facts, numbers and calls.
use Rattle.std.specs.Prelude.{ℕ, ◌<◌, ◌≤◌, List, [], ◌∷◌, ◌++◌, map, length, true, Some, IsTrue, IsFalse, ◌≡◌}
use Rattle.herm_model.specs.Lists.{IsIn}
use Rattle.herm_model.specs.Paths.{Path, Fact, init, case}
use Rattle.herm_model.specs.Types.{Parameter, Raised, inport, callmessage, TypeTable, type_at, passes_component, is_within_depth, greatest_depth, full_parts, held_parts, variable_paths}
use Rattle.herm_model.specs.Facts.{full_facts, declared_facts, IsFactOf}
use Rattle.herm_model.specs.Expressions.{Literal, Expression, literal, copy, negation, logical_not, operation, size_of, decimal, length_of, Atom, path, paths_read, paths_among}
use Rattle.herm_model.specs.Statements.{Form, Assign, Move, New, Discard, Unite, Dissolve, Reveal, Case, Wrap, Unwrap, Insert, Remove, Get, For, Connect, Send, Receive, Select, Call, Return, ReturnBy, Create, If, While, Raise, Leave, Arm, Process, Differ}
use Rattle.herm_model.specs.Outcomes.{Outcome, outcomes, disconnected}
use Rattle.herm_model.specs.Targets.{Target}
use Rattle.herm_model.specs.Calls.{call_raises, kept_for}
use Rattle.herm_model.specs.FactsOfStatements.{needs, makes, kills, set_by_call, kept_by_call}
use Rattle.herm_model.specs.ControlPaths.{flow_of, Hop, IsControlPath}
use Rattle.herm_model.specs.TypedExpressions.{HasShape, IsLiteralOf}
use Rattle.herm_model.specs.WellFormedTables.{IsType, IsWellFormedTable}
use Rattle.herm_model.specs.TypedStatements.{IsTypedForm}
use Rattle.herm_model.specs.TypedPrograms.{greatest_variable_paths, IsTypedProcess}

-- The type at a path is one that there is, within the depth, and the path is no longer than types are deep.
pub record PathsAreBounded (table : TypeTable) (variables : List ℕ) : Type 0 where
  pub types : (p : Path) (t : ℕ) → type_at table variables p ≡ Some t → IsType table t
  pub deep : (p : Path) (t : ℕ) → type_at table variables p ≡ Some t → IsTrue (is_within_depth greatest_depth table t)
  pub short : (p : Path) (t : ℕ) → type_at table variables p ≡ Some t → length p ≤ greatest_depth
  -- the paths that hold values, and those that full asks for, are no more than all
  pub held : length (variable_paths held_parts table variables) ≤ greatest_variable_paths
  pub full : length (variable_paths full_parts table variables) ≤ greatest_variable_paths

abbrev pub TypedPathsAreBounded : Type 0
TypedPathsAreBounded = (exceptions : ℕ) (table : TypeTable) (processes : List Process) (p : Process) → IsWellFormedTable exceptions table → IsTypedProcess exceptions table processes p → PathsAreBounded table p.variables

-- The facts of a full value at a path through no component are facts that there are.
abbrev pub FullFactsAreThere : Type 0
FullFactsAreThere = (table : TypeTable) (variables : List ℕ) (p : Path) (t : ℕ) → type_at table variables p ≡ Some t → IsFalse (passes_component table variables p) → (f : Fact) → IsIn f (full_facts table t p) → IsFactOf table variables f

-- So are those at which messages of an inport type travel, also the listed ones, for a message at variable 0.
abbrev pub DeclaredFactsAreThere : Type 0
DeclaredFactsAreThere = (exceptions : ℕ) (table : TypeTable) (variables : List ℕ) (port message : ℕ) (declared : List Fact) (p : Path) → IsWellFormedTable exceptions table → HasShape table port (inport message declared)
    → type_at table variables p ≡ Some message → IsFalse (passes_component table variables p) → (f : Fact) → IsIn f (declared_facts table port p) → IsFactOf table variables f

abbrev pub ListedFactsAreThere : Type 0
ListedFactsAreThere = (exceptions : ℕ) (table : TypeTable) (port message : ℕ) (declared : List Fact) → IsWellFormedTable exceptions table → HasShape table port (inport message declared)
    → (f : Fact) → IsIn f declared → IsFactOf table (message ∷ []) f

-- What a typed form needs, makes at one of its outcomes and takes away are facts that there are, and paths that have
-- types and pass through no component.
pub record HasItsFacts (table : TypeTable) (variables : List ℕ) (form : Form) : Type 0 where
  pub needs : (f : Fact) → IsIn f (needs table variables form) → IsFactOf table variables f
  pub makes : (o : Outcome) (f : Fact) → IsIn o (outcomes table variables form) → IsIn f (makes table variables form o) → IsFactOf table variables f
  pub kills : (o : Outcome) (p : Path) → IsIn p (kills table variables form o) → IsFactOf table variables (init p)

abbrev pub TypedFormsHaveTheirFacts : Type 0
TypedFormsHaveTheirFacts = (exceptions : ℕ) (table : TypeTable) (variables : List ℕ) (processes : List Process) (form : Form) → IsWellFormedTable exceptions table → IsTypedForm table variables exceptions processes form → HasItsFacts table variables form

-- What is held on a control path of a typed process is a fact of its variables.
abbrev pub HeldFactsAreThere : Type 0
HeldFactsAreThere = (exceptions : ℕ) (table : TypeTable) (processes : List Process) (p : Process) → IsWellFormedTable exceptions table → IsTypedProcess exceptions table processes p
    → (hops : List Hop) (there : Target) (f : Fact) → IsControlPath (flow_of table p) f hops there true → IsFactOf table p.variables f

-- The exceptions that a typed call's callmessage declares differ, are there, and keep arguments that the call sets; with
-- Disconnected none is kept, and messages of the call's port travel full.
pub record CallsDeclare (exceptions : ℕ) (table : TypeTable) (variables : List ℕ) (o : Path) (arguments : List Atom) : Type 0 where
  pub differ : Differ (map (λ (r : Raised). r.exception) (call_raises table variables o))
  pub known : (r : Raised) → IsIn r (call_raises table variables o) → r.exception < exceptions
  pub kept : (e : ℕ) (p : Path) → IsIn p (kept_by_call table variables o arguments e) → IsIn p (set_by_call table variables o arguments)
  pub disconnected_keeps : kept_for (call_raises table variables o) disconnected ≡ []

abbrev pub TypedCallsDeclare : Type 0
TypedCallsDeclare = (exceptions : ℕ) (table : TypeTable) (variables : List ℕ) (processes : List Process) (o : Path) (arguments : List Atom) → IsWellFormedTable exceptions table
    → IsTypedForm table variables exceptions processes (Call o arguments) → CallsDeclare exceptions table variables o arguments

-- A port of callmessages lists no facts: they travel full.
abbrev pub CallmessagesTravelFull : Type 0
CallmessagesTravelFull = (exceptions : ℕ) (table : TypeTable) (port message : ℕ) (declared : List Fact) (parameters : List Parameter) (raises : List Raised) → IsWellFormedTable exceptions table
    → HasShape table port (inport message declared) → HasShape table message (callmessage parameters raises) → declared ≡ []

-- the literals in an expression, and among atoms
abbrev pub literals_in : Expression → List Literal
literals_in (literal l) = l ∷ []
literals_in (copy p) = []
literals_in (negation e) = literals_in e
literals_in (logical_not e) = literals_in e
literals_in (operation o left right) = literals_in left ++ literals_in right
literals_in (size_of p) = []
literals_in (decimal e) = literals_in e
literals_in (length_of e) = literals_in e

abbrev pub literals_among : List Atom → List Literal
literals_among [] = []
literals_among (Atom.literal l ∷ atoms) = l ∷ literals_among atoms
literals_among (path p ∷ atoms) = literals_among atoms

-- all that a form names by numbers
pub record Named : Type 0 where
  pub paths : List Path
  pub literals : List Literal
  pub components : List Fact
  pub types : List ℕ
  pub exceptions : List ℕ
  pub processes : List ℕ

abbrev pub only_paths : List Path → Named
only_paths ps = record { paths = ps; literals = []; components = []; types = []; exceptions = []; processes = [] }

abbrev pub with_literals : List Path → List Literal → Named
with_literals ps ls = record { paths = ps; literals = ls; components = []; types = []; exceptions = []; processes = [] }

abbrev pub with_components : List Path → List Fact → Named
with_components ps fs = record { paths = ps; literals = []; components = fs; types = []; exceptions = []; processes = [] }

abbrev pub arm_paths : List Arm → List Path
arm_paths [] = []
arm_paths (a ∷ arms) = a.target ∷ a.port ∷ arm_paths arms

abbrev pub named : Form → Named
named (Assign x e) = with_literals (x ∷ paths_read e) (literals_in e)
named (Move y x) = only_paths (y ∷ x ∷ [])
named (New x) = only_paths (x ∷ [])
named (Discard x) = only_paths (x ∷ [])
named (Unite v c y) = with_components (v ∷ y ∷ []) (case v c ∷ [])
named (Dissolve v c y) = with_components (v ∷ y ∷ []) (case v c ∷ [])
named (Reveal v c) = with_components (v ∷ []) (case v c ∷ [])
named (Case v cs) = with_components (v ∷ []) (map (case v) cs)
named (Wrap y p) = only_paths (y ∷ p ∷ [])
named (Unwrap p t y) = record { paths = p ∷ y ∷ []; literals = []; components = []; types = t ∷ []; exceptions = []; processes = [] }
named (Insert r t) = only_paths (r ∷ t ∷ [])
named (Remove r t keys) = with_literals (r ∷ t ∷ paths_among keys) (literals_among keys)
named (Get r t keys) = with_literals (r ∷ t ∷ paths_among keys) (literals_among keys)
named (For r t) = only_paths (r ∷ t ∷ [])
named (Connect o i) = only_paths (o ∷ i ∷ [])
named (Send x o) = only_paths (x ∷ o ∷ [])
named (Receive x i) = only_paths (x ∷ i ∷ [])
named (Select arms) = only_paths (arm_paths arms)
named (Call o arguments) = with_literals (o ∷ paths_among arguments) (literals_among arguments)
named (Return m) = only_paths (m ∷ [])
named (ReturnBy m e) = record { paths = m ∷ []; literals = []; components = []; types = []; exceptions = e ∷ []; processes = [] }
named (Create o n) = record { paths = o ∷ []; literals = []; components = []; types = []; exceptions = []; processes = n ∷ [] }
named (If e) = with_literals (paths_read e) (literals_in e)
named (While e) = with_literals (paths_read e) (literals_in e)
named (Raise e) = record { paths = []; literals = []; components = []; types = []; exceptions = e ∷ []; processes = [] }
named Leave = only_paths []

-- Every number is in range: a path has a type, so that its variable and its parts are there; a literal is of a type, a
-- component is one of its variant's, and a type, an exception and a process are there.
pub record IsInRange (exceptions : ℕ) (table : TypeTable) (variables : List ℕ) (processes : List Process) (n : Named) : Type 0 where
  pub paths : (p : Path) → IsIn p n.paths → (t : ℕ) × (type_at table variables p ≡ Some t)
  pub literals : (l : Literal) → IsIn l n.literals → (t : ℕ) × IsLiteralOf table l t
  pub components : (f : Fact) → IsIn f n.components → IsFactOf table variables f
  pub types : (t : ℕ) → IsIn t n.types → IsType table t
  pub exceptions_named : (e : ℕ) → IsIn e n.exceptions → e < exceptions
  pub processes_named : (m : ℕ) → IsIn m n.processes → m < length processes

abbrev pub TypedFormsAreInRange : Type 0
TypedFormsAreInRange = (exceptions : ℕ) (table : TypeTable) (variables : List ℕ) (processes : List Process) (form : Form) → IsWellFormedTable exceptions table → ((t : ℕ) → IsIn t variables → IsType table t)
    → IsTypedForm table variables exceptions processes form → IsInRange exceptions table variables processes (named form)
