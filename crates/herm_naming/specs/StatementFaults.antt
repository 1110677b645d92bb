-- The places of a process at which a name or a type can be wrong, in the order of the text, and the code at each.
-- Language reference, "Names and types of statements".
use Rattle.std.specs.Prelude.{Bool, true, false, not, cond, ◌&&◌, ◌||◌, nat_lt, List, [], ◌∷◌, ◌++◌, map, length, bytes_eq, Option, Some, None, is_some}
use Rattle.herm_model.specs.Lists.{all_pass, any_pass}
use Rattle.herm_model.specs.Types.{Parameter, Shape, inport, all_parts, variable_paths}
use Rattle.herm_model.specs.Calls.{call_parameters, is_returned}
use Rattle.herm_model.specs.Statements.{numbers_of_block, Process}
use Rattle.herm_model.specs.tests.TableTests.{are_different}
use Rattle.herm_model.specs.TypedPrograms.{greatest_statements, greatest_variable_paths}
use Rattle.herm_alphabet.specs.KeywordLetters.{keyword_of}
use Rattle.herm_syntax.specs.Trees.{Letters, Path, Atom, Constant, Place, Move, Unite, Dissolve, Wrap, Statement, Unwrap, Call, Case, For, Select, If, While, Try, Statements, NoStatement, Further, Arms, NoArm, Arm, PortArms, NoPortArm, PortArm, Otherwise, NoElse, Else, Field}
use Rattle.herm_meaning.specs.Names.{NamedTable}
use Rattle.herm_naming.specs.Numbers.{Scope, path_number, type_number, without_last}
use Rattle.herm_naming.specs.Meaning.{arm_names, statement_number, ProcessText, scope_of, process_meaning}
use Rattle.herm_naming.specs.UnknownNames.{is_type, is_statement_there}
use Rattle.herm_naming.specs.Fits.{may_be, fits_statement}
use Rattle.herm_naming.specs.Copies.{copies_statement}

-- The codes of refusals. Language reference, "Refusals".
pub data Code : Type 0 where
  unknown twice wrong_type not_copyable unreachable no_main too_many : Code

-- the two paths part at some name
abbrev pub part_ways : Path → Path → Bool
part_ways [] q = false
part_ways (n ∷ p) [] = false
part_ways (n ∷ p) (m ∷ q) = not (bytes_eq n m) || part_ways p q

-- the arguments that a call sets, for these parameters
abbrev pub set_arguments : List Parameter → List Atom → List Path
set_arguments [] atoms = []
set_arguments (p ∷ parameters) [] = []
set_arguments (p ∷ parameters) (Constant l ∷ atoms) = set_arguments parameters atoms
set_arguments (p ∷ parameters) (Place q ∷ atoms) = cond (is_returned p.mode) (q ∷ set_arguments parameters atoms) (set_arguments parameters atoms)

abbrev pub all_part_ways : List Path → Bool
all_part_ways [] = true
all_part_ways (p ∷ ps) = all_pass (part_ways p) ps && all_part_ways ps

-- A path that is moved and one that is set do not begin one another, nor do two that a call sets. Language reference,
-- "Rules on paths".
abbrev pub paths_part : Scope → Statement → Bool
paths_part s (Move y x) = part_ways y x
paths_part s (Unite c y) = part_ways y (without_last c)
paths_part s (Dissolve c y) = part_ways (without_last c) y
paths_part s (Wrap y p) = part_ways y p
paths_part s (Unwrap p name y) = part_ways p y
paths_part s (Call o arguments) = all_part_ways (set_arguments (call_parameters s.known.shapes s.types (path_number s o)) arguments)
paths_part s _ = true

abbrev pub same_path : Path → Path → Bool
same_path [] [] = true
same_path [] (n ∷ q) = false
same_path (n ∷ p) [] = false
same_path (n ∷ p) (m ∷ q) = bytes_eq n m && same_path p q

abbrev pub ports_of : PortArms → List Path
ports_of NoPortArm = []
ports_of (PortArm port target body rest) = port ∷ ports_of rest

-- An arm, a port or a handler is repeated. Language reference, "Repeated names".
abbrev pub repeats : Statement → Bool
repeats (Case v arms) = not (are_different bytes_eq (arm_names arms))
repeats (Select arms) = not (are_different same_path (ports_of arms))
repeats (Try body arms) = not (are_different bytes_eq (arm_names arms))
repeats _ = false

-- The first of these codes that holds. Language reference, "Refusals".
abbrev pub first_code : (is_unknown is_twice is_wrong is_uncopyable : Bool) → Option Code
first_code is_unknown is_twice is_wrong is_uncopyable =
    cond is_unknown (Some unknown) (cond is_twice (Some twice) (cond is_wrong (Some wrong_type) (cond is_uncopyable (Some not_copyable) None)))

-- the code of a statement, apart from the statements within it
abbrev pub statement_code : Scope → (in_loop : Bool) → Statement → Option Code
statement_code s l x = first_code
    (not (is_statement_there s.known.shapes s.types (length s.known.exceptions) (length s.processes) l (statement_number s x)))
    (repeats x)
    (not (fits_statement s.known.shapes s.types s.ports (statement_number s x) && paths_part s x))
    (not (copies_statement s.known.shapes s.types (statement_number s x)))

-- All statements of a part of the text, in order, compound ones before their parts, each with whether it stands in a
-- loop.
abbrev mutual
  pub within : (in_loop : Bool) → Statement → List (Bool × Statement)
  within l (Case v arms) = in_arms l arms
  within l (For r t body) = in_body true body
  within l (Select arms) = in_port_arms l arms
  within l (If e body other) = in_body l body ++ in_otherwise l other
  within l (While e body) = in_body true body
  within l (Try body arms) = in_body l body ++ in_arms l arms
  within l _ = []

  pub in_body : (in_loop : Bool) → Statements → List (Bool × Statement)
  in_body l NoStatement = []
  in_body l (Further x rest) = (l, x) ∷ (within l x ++ in_body l rest)

  pub in_arms : (in_loop : Bool) → Arms → List (Bool × Statement)
  in_arms l NoArm = []
  in_arms l (Arm name body rest) = in_body l body ++ in_arms l rest

  pub in_port_arms : (in_loop : Bool) → PortArms → List (Bool × Statement)
  in_port_arms l NoPortArm = []
  in_port_arms l (PortArm port target body rest) = in_body l body ++ in_port_arms l rest

  pub in_otherwise : (in_loop : Bool) → Otherwise → List (Bool × Statement)
  in_otherwise l NoElse = []
  in_otherwise l (Else body) = in_body l body

-- the codes of the statements of a process, in the order of the text
abbrev pub statement_codes : Scope → Statements → List (Option Code)
statement_codes s body = map (λ (x : Bool × Statement). statement_code s x.0 x.1) (in_body false body)

-- it is one of the names before
abbrev pub is_among : Letters → List Letters → Bool
is_among name names = any_pass (bytes_eq name) names

abbrev pub is_inport_shape : Shape → Bool
is_inport_shape (inport message declared) = true
is_inport_shape s = false

-- A declaration: its type is there, its name was not declared before and is no keyword, and a port is of an inport type.
-- Language reference, "Declarations".
abbrev pub declaration_code : NamedTable → (is_port : Bool) → (before : List Letters) → Field → Option Code
declaration_code known is_port before d = first_code
    (not (is_type known.shapes (type_number known d.1)))
    (is_among d.0 before)
    (is_some (keyword_of d.0) || (is_port && not (may_be known.shapes is_inport_shape (Some (type_number known d.1)))))
    false

abbrev pub variable_codes : NamedTable → (before : List Letters) → List Field → List (Option Code)
variable_codes known before [] = []
variable_codes known before (d ∷ ds) = declaration_code known false before d ∷ variable_codes known (before ++ (d.0 ∷ [])) ds

-- A process has too many statements or too many paths of variables. Language reference, "Limits".
abbrev pub is_too_large : NamedTable → Process → Bool
is_too_large known p =
    nat_lt greatest_statements (numbers_of_block p.body) || nat_lt greatest_variable_paths (length (variable_paths all_parts known.shapes p.variables))

-- the code at a process's name, behind processes of these names
abbrev pub name_code : NamedTable → (before : List Letters) → Letters → Process → Option Code
name_code known before name p = cond (is_among name before) (Some twice) (cond (is_too_large known p) (Some too_many) None)

-- The codes at the places of a process: its name, its port, its variables, its statements. Language reference, "Names
-- and types of statements".
abbrev pub process_codes : NamedTable → (all : List ProcessText) → (before : List Letters) → ProcessText → List (Option Code)
process_codes known all before p =
    name_code known before p.name (process_meaning known all p)
    ∷ declaration_code known true [] p.port
    ∷ (variable_codes known (p.port.0 ∷ []) p.variables ++ statement_codes (scope_of known all p) p.body)
