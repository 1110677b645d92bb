-- Which trees the grammar can spell: language reference, "Grammar". Lists that may not be empty, names that
-- are no keywords where a name is asked, chains whose operators are of their level. How deep the parts of
-- a tree stand in one another is a depth: an expression in parentheses, in `text` or in `length`, and a statement
-- in a block, stand one deeper than what holds them.
use Rattle.std.specs.Prelude.{◌≡◌, ℕ, zero, suc, Bool, true, false, not, ◌&&◌, if◌then◌else◌, List, [], ◌∷◌, Option, Some, None, nat_eq}
use Rattle.herm_readers.specs.Combinators.{many_fits, separated_fits}
use Rattle.herm_syntax.specs.Symbols.{Symbol, is, is_operator, is_keyword, minus}
use Rattle.herm_syntax.specs.KeywordSymbols.{kw_not}
use Rattle.herm_syntax.specs.Trees.{Letters, Path, Literal, Integer, Text, Boolean, Tag, Atom, Constant, Place, Expression, Chain, Compare, Unary, Operands, NoOperand, Operand, Comparison, NoComparison, With, Primary, Simple, Size, Paren, TextOf, LengthOf, Move, Unite, Dissolve, Wrap, Insert, Connect, Send, Receive, New, Discard, Reveal, Statement, Assign, Remove, Get, Unwrap, Call, Return, ReturnBy, Create, Raise, Leave, Case, For, Select, If, While, Try, Statements, NoStatement, Further, Arms, NoArm, Arm, PortArms, NoPortArm, PortArm, Otherwise, NoElse, Else, Field, Param, Raising, DeclaredFact, InitFact, FullFact, CaseFact, Shape, Names, Fields, Cases, Rows, Inport, Outport, CallMessage, Item, TypeItem, ExceptionItem, Module, Definitions, Process}

-- A name has no keyword's letters: language reference, "Names, parts and paths".
abbrev pub is_name : Letters → Bool
is_name letters = not (is_keyword letters)

-- A part may have any letters.
abbrev pub any_part : Letters → Bool
any_part letters = true

-- A path has a variable, which is a name.
abbrev pub path_fits : Path → Bool
path_fits [] = false
path_fits (variable ∷ parts) = is_name variable

-- A path to a component: a part behind a path.
abbrev pub component_path_fits : Path → Bool
component_path_fits [] = false
component_path_fits (variable ∷ []) = false
component_path_fits (variable ∷ p ∷ parts) = is_name variable

-- The type of an enumeration's value is a name.
abbrev pub literal_fits : Literal → Bool
literal_fits (Integer n) = true
literal_fits (Text letters) = true
literal_fits (Boolean b) = true
literal_fits (Tag name value) = is_name name

-- A literal or a path.
abbrev pub atom_fits : Atom → Bool
atom_fits (Constant l) = literal_fits l
atom_fits (Place p) = path_fits p

-- The signs of one operand: `-` and `not`.
abbrev pub is_sign : Symbol → Bool
is_sign x = if is minus x then true else is kw_not x

-- A sign that is written is one of these.
abbrev pub sign_fits : Option Symbol → Bool
sign_fits None = true
sign_fits (Some x) = is_sign x

-- Expressions by level: 0 an operand with its sign, 1 a product, 2 a sum, 3 a comparison, 4 operands of `and`,
-- 5 operands of `or`.
abbrev mutual
  pub expression_fits : Expression → ℕ → ℕ → Bool
  expression_fits (Chain first rest) zero depth = false
  expression_fits (Chain first rest) (suc n) depth = not (nat_eq n 2) && (expression_fits first n depth && operands_fit rest n depth)
  expression_fits (Compare left right) zero depth = false
  expression_fits (Compare left right) (suc n) depth = nat_eq n 2 && (expression_fits left n depth && comparison_fits right n depth)
  expression_fits (Unary operator p) zero depth = sign_fits operator && primary_fits p depth
  expression_fits (Unary operator p) (suc n) depth = false

  pub operands_fit : Operands → ℕ → ℕ → Bool
  operands_fit NoOperand n depth = true
  operands_fit (Operand operator e rest) n depth = (is_operator (suc n) operator && expression_fits e n depth) && operands_fit rest n depth

  pub comparison_fits : Comparison → ℕ → ℕ → Bool
  comparison_fits NoComparison n depth = true
  comparison_fits (With operator e) n depth = is_operator (suc n) operator && expression_fits e n depth

  pub primary_fits : Primary → ℕ → Bool
  primary_fits (Simple a) depth = atom_fits a
  primary_fits (Size p) depth = path_fits p
  primary_fits (Paren e) zero = false
  primary_fits (Paren e) (suc depth) = expression_fits e 5 depth
  primary_fits (TextOf e) zero = false
  primary_fits (TextOf e) (suc depth) = expression_fits e 5 depth
  primary_fits (LengthOf e) zero = false
  primary_fits (LengthOf e) (suc depth) = expression_fits e 5 depth

-- A `case` has an arm, and a `try` a handler.
abbrev pub has_arm : Arms → Bool
has_arm NoArm = false
has_arm (Arm name body others) = true

-- A `select` has an arm.
abbrev pub has_port_arm : PortArms → Bool
has_port_arm NoPortArm = false
has_port_arm (PortArm port target body others) = true

-- Statements by their parts; `unite`, `dissolve` and `reveal` name a component first, and the statements of a block
-- stand one deeper: language reference, "Statements".
abbrev mutual
  pub statement_fits : Statement → ℕ → Bool
  statement_fits (Assign x e) depth = path_fits x && expression_fits e 5 depth
  statement_fits (Move y x) depth = path_fits y && path_fits x
  statement_fits (Unite v y) depth = component_path_fits v && path_fits y
  statement_fits (Dissolve v y) depth = component_path_fits v && path_fits y
  statement_fits (Wrap y p) depth = path_fits y && path_fits p
  statement_fits (Insert r t) depth = path_fits r && path_fits t
  statement_fits (Connect o i) depth = path_fits o && path_fits i
  statement_fits (Send x o) depth = path_fits x && path_fits o
  statement_fits (Receive x i) depth = path_fits x && path_fits i
  statement_fits (New x) depth = path_fits x
  statement_fits (Discard x) depth = path_fits x
  statement_fits (Reveal v) depth = component_path_fits v
  statement_fits (Remove r t keys) depth = path_fits r && (path_fits t && separated_fits atom_fits keys)
  statement_fits (Get r t keys) depth = path_fits r && (path_fits t && separated_fits atom_fits keys)
  statement_fits (Unwrap p name y) depth = path_fits p && (is_name name && path_fits y)
  statement_fits (Call o arguments) depth = path_fits o && many_fits atom_fits arguments
  statement_fits (Return m) depth = path_fits m
  statement_fits (ReturnBy m name) depth = path_fits m && is_name name
  statement_fits (Create o name) depth = path_fits o && is_name name
  statement_fits (Raise name) depth = is_name name
  statement_fits Leave depth = true
  statement_fits (Case v arms) depth = path_fits v && (has_arm arms && case_arms_fit arms depth)
  statement_fits (For r t body) depth = path_fits r && (path_fits t && statements_fit body depth)
  statement_fits (Select arms) depth = has_port_arm arms && port_arms_fit arms depth
  statement_fits (If e body other) depth = expression_fits e 5 depth && (statements_fit body depth && otherwise_fits other depth)
  statement_fits (While e body) depth = expression_fits e 5 depth && statements_fit body depth
  statement_fits (Try body handled) depth = statements_fit body depth && (has_arm handled && handlers_fit handled depth)

  pub statements_fit : Statements → ℕ → Bool
  statements_fit NoStatement depth = true
  statements_fit (Further s others) zero = false
  statements_fit (Further s others) (suc depth) = statement_fits s depth && statements_fit others (suc depth)

  pub case_arms_fit : Arms → ℕ → Bool
  case_arms_fit NoArm depth = true
  case_arms_fit (Arm component body others) depth = statements_fit body depth && case_arms_fit others depth

  pub port_arms_fit : PortArms → ℕ → Bool
  port_arms_fit NoPortArm depth = true
  port_arms_fit (PortArm port target body others) depth = (path_fits port && (path_fits target && statements_fit body depth)) && port_arms_fit others depth

  pub handlers_fit : Arms → ℕ → Bool
  handlers_fit NoArm depth = true
  handlers_fit (Arm name body others) depth = (is_name name && statements_fit body depth) && handlers_fit others depth

  pub otherwise_fits : Otherwise → ℕ → Bool
  otherwise_fits NoElse depth = true
  otherwise_fits (Else body) depth = statements_fit body depth

-- A field's type is a name; its part may have any letters.
abbrev pub field_fits : Field → Bool
field_fits f = is_name f.1

-- A parameter is a mode and a field.
abbrev pub param_fits : Param → Bool
param_fits p = field_fits p.1

-- A declared fact's path has a part.
abbrev pub declared_fact_fits : DeclaredFact → Bool
declared_fact_fits (InitFact p) = separated_fits any_part p
declared_fact_fits (FullFact p) = separated_fits any_part p
declared_fact_fits (CaseFact p component) = separated_fits any_part p

-- A raised exception is a name.
abbrev pub raising_fits : Raising → Bool
raising_fits r = is_name r.0

-- Lists of values, fields, components and keys are not empty: language reference, "Shapes".
abbrev pub shape_fits : Shape → Bool
shape_fits (Names names) = separated_fits any_part names
shape_fits (Fields fs) = separated_fits field_fits fs
shape_fits (Cases fs) = separated_fits field_fits fs
shape_fits (Rows row keys) = is_name row && separated_fits any_part keys
shape_fits (Inport message facts) = is_name message && many_fits declared_fact_fits facts
shape_fits (Outport port) = is_name port
shape_fits (CallMessage params raises) = many_fits param_fits params && many_fits raising_fits raises

-- What is defined has a name.
abbrev pub item_fits : Item → Bool
item_fits (TypeItem name s) = is_name name && shape_fits s
item_fits (ExceptionItem name) = is_name name

-- Language reference, "Files".
abbrev pub module_fits : ℕ → Module → Bool
module_fits depth (Definitions name items) = is_name name && many_fits item_fits items
module_fits depth (Process name port vars body) = is_name name && (field_fits port && (many_fits field_fits vars && statements_fit body depth))

-- Each module of a file fits.
abbrev pub file_fits : ℕ → List Module → Bool
file_fits depth modules = many_fits (module_fits depth) modules

-- The modules are a file that the grammar can spell.
abbrev pub IsFile : List Module → Type 0
IsFile modules = (depth : ℕ) × (file_fits depth modules ≡ true)
