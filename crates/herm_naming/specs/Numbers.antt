-- The numbers that stand for names: a name's place among the names that there are. A name that is not there has the
-- number behind the last one, which nothing has.
use Rattle.std.specs.Prelude.{ℕ, suc, cond, List, [], ◌∷◌, bytes_eq, Option, Some, None, slice_get, length}
use Rattle.herm_model.specs.Lists.{list_of}
use Rattle.herm_model.specs.Paths as paths
use Rattle.herm_model.specs.Types.{part_of, type_at}
use Rattle.herm_model.specs.Expressions as model
use Rattle.herm_syntax.specs.Symbols.{Symbol, Key, Sign}
use Rattle.herm_alphabet.specs.declared.keyword.Keyword.{Keyword}
use Rattle.herm_alphabet.specs.declared.keyword.Keyword.TheVariants.{KwAnd, KwDiv, KwOr}
use Rattle.herm_alphabet.specs.declared.sign.Mark.{Mark}
use Rattle.herm_alphabet.specs.declared.sign.Mark.TheVariants.{Equal, NotEqual, Less, LessEqual, Greater, GreaterEqual, Plus, Minus, Star}
use Rattle.herm_syntax.specs.Trees.{Letters, Path, Literal, Integer, Text, Boolean, Tag, Atom, Constant, Place, Expression, Chain, Compare, Unary, Operands, NoOperand, Operand, Comparison, NoComparison, With, Primary, Simple, Size, Paren, TextOf, LengthOf}
use Rattle.herm_meaning.specs.Names.{NamedTable}

-- The place of the first of these names that is this one.
abbrev pub place_of : Letters → List Letters → ℕ
place_of name [] = 0
place_of name (n ∷ names) = cond (bytes_eq name n) 0 (suc (place_of name names))

-- What is known where a statement stands: the types and exceptions; the process's variables by name, the port first, and
-- their types; the program's processes by name, and the types of their ports.
pub record Scope : Type 0 where
  pub known : NamedTable
  pub variables : List Letters
  pub types : List ℕ
  pub processes : List Letters
  pub ports : List ℕ

abbrev pub type_number : NamedTable → Letters → ℕ
type_number known name = place_of name known.names

abbrev pub exception_number : NamedTable → Letters → ℕ
exception_number known name = place_of name known.exceptions

-- the names of the parts of a type: none where the type is not known
abbrev pub part_names : NamedTable → Option ℕ → List Letters
part_names known None = []
part_names known (Some t) = list_of (λ names. names) (slice_get known.parts t)

abbrev pub part_number : NamedTable → Option ℕ → Letters → ℕ
part_number known t name = place_of name (part_names known t)

-- the numbers of the parts of a path behind a value of this type
abbrev pub part_numbers : NamedTable → Option ℕ → List Letters → List ℕ
part_numbers known t [] = []
part_numbers known t (name ∷ names) = part_number known t name ∷ part_numbers known (part_of known.shapes t (part_number known t name)) names

-- A path: the variable's number, and the places of the parts; a path without a name names nothing. Language reference,
-- "Paths".
abbrev pub path_number : Scope → Path → paths.Path
path_number s [] = length s.variables ∷ []
path_number s (name ∷ names) =
    place_of name s.variables ∷ part_numbers s.known (slice_get s.types (place_of name s.variables)) names

-- the type at a path, where the variable and all parts are there
abbrev pub type_seen : Scope → paths.Path → Option ℕ
type_seen s p = type_at s.known.shapes s.types p

-- the names of a path without the last one, and the last one
abbrev pub without_last : Path → Path
without_last [] = []
without_last (n ∷ []) = []
without_last (n ∷ m ∷ p) = n ∷ without_last (m ∷ p)

abbrev pub last_name : Path → Letters
last_name [] = []
last_name (n ∷ []) = n
last_name (n ∷ m ∷ p) = last_name (m ∷ p)

-- the component of a variant that is written as the last part of a path
abbrev pub component_number : Scope → Path → ℕ
component_number s c = part_number s.known (type_seen s (path_number s (without_last c))) (last_name c)

-- A literal, an atom. A value of an enumeration is the type, and its place among the type's names.
abbrev pub literal_number : NamedTable → Literal → model.Literal
literal_number known (Integer z) = model.integer z
literal_number known (Text bytes) = model.text bytes
literal_number known (Boolean b) = model.boolean b
literal_number known (Tag name value) = model.tag (type_number known name) (part_number known (Some (type_number known name)) value)

abbrev pub atom_number : Scope → Atom → model.Atom
atom_number s (Constant l) = model.Atom.literal (literal_number s.known l)
atom_number s (Place p) = model.path (path_number s p)

abbrev pub keyword_operator : Keyword → model.Operator
keyword_operator KwOr = model.logical_or
keyword_operator KwAnd = model.logical_and
keyword_operator KwDiv = model.divided
keyword_operator k = model.modulo

abbrev pub sign_operator : Mark → model.Operator
sign_operator Equal = model.equal
sign_operator NotEqual = model.unequal
sign_operator Less = model.less
sign_operator LessEqual = model.at_most
sign_operator Greater = model.greater
sign_operator GreaterEqual = model.at_least
sign_operator Plus = model.plus
sign_operator Minus = model.minus
sign_operator Star = model.times
sign_operator m = model.concatenated

-- the operator that a symbol between two operands is
abbrev pub operator_of : Symbol → model.Operator
operator_of (Key k) = keyword_operator k
operator_of (Sign m) = sign_operator m
operator_of symbol = model.concatenated

-- `not` before an operand, else the minus
abbrev pub sign_of : Symbol → model.Expression → model.Expression
sign_of (Key k) e = model.logical_not e
sign_of symbol e = model.negation e

abbrev pub signed : Option Symbol → model.Expression → model.Expression
signed None e = e
signed (Some symbol) e = sign_of symbol e

abbrev pub of_atom : model.Atom → model.Expression
of_atom (model.Atom.literal l) = model.Expression.literal l
of_atom (model.path p) = model.copy p

-- An expression: the operators of one level are taken from the left. Language reference, "Expressions".
abbrev mutual
  pub expression_number : Scope → Expression → model.Expression
  expression_number s (Chain e rest) = joined s (expression_number s e) rest
  expression_number s (Compare e rest) = compared s (expression_number s e) rest
  expression_number s (Unary sign p) = signed sign (primary_number s p)

  pub joined : Scope → model.Expression → Operands → model.Expression
  joined s left NoOperand = left
  joined s left (Operand symbol e rest) = joined s (model.operation (operator_of symbol) left (expression_number s e)) rest

  pub compared : Scope → model.Expression → Comparison → model.Expression
  compared s left NoComparison = left
  compared s left (With symbol e) = model.operation (operator_of symbol) left (expression_number s e)

  pub primary_number : Scope → Primary → model.Expression
  primary_number s (Simple a) = of_atom (atom_number s a)
  primary_number s (Size p) = model.size_of (path_number s p)
  primary_number s (Paren e) = expression_number s e
  primary_number s (TextOf e) = model.decimal (expression_number s e)
  primary_number s (LengthOf e) = model.length_of (expression_number s e)
