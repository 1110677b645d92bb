-- The readers of expressions, and where the reading of one ends: language reference, "Grammar".
use Rattle.std.specs.Prelude.{ℕ, zero, suc, Bool, true, false, not, ◌&&◌, ◌⊎◌, if◌then◌else◌, List, [], ◌∷◌, Option, Some, None, is_some}
use mathlib.Core.Logic.{inl, inr}
use Rattle.herm_readers.specs.Reader.{Reader, Rule, ahead}
use Rattle.herm_readers.specs.Combinators.{passes, nothing, one, one_rule, mapped, sequence, preceded, preceded_rule, terminated, choice, choice_rule, many, many_rule, separated}
use Rattle.herm_alphabet.specs.KeywordLetters.{letters}
use Rattle.herm_syntax.specs.Symbols.{Symbol, Key, Sign, Identifier, Number, Quoted, is, is_operator, is_keyword, paren_open, paren_close, dot, hash}
use Rattle.herm_syntax.specs.KeywordSymbols.{kw_true, kw_false, kw_size, kw_text, kw_length}
use Rattle.herm_syntax.specs.Trees.{Letters, Path, Literal, Integer, Text, Boolean, Tag, Atom, Constant, Place, Expression, Chain, Compare, Unary, Operands, NoOperand, Operand, Comparison, NoComparison, With, Primary, Simple, Size, Paren, TextOf, LengthOf}
use Rattle.herm_syntax.specs.Spelling.{part, path, atom, expression, operands, comparison, primary}
use Rattle.herm_syntax.specs.Fitting.{is_name, any_part, path_fits, component_path_fits, atom_fits, is_sign, expression_fits, primary_fits}

-- A symbol that passes a test, as it is.
abbrev pub pick_by : (Symbol → Bool) → Symbol → Option Symbol
pick_by test x = if test x then Some x else None

abbrev pub pick_name : Symbol → Option Letters
pick_name (Key n) = None
pick_name (Sign n) = None
pick_name (Identifier letters) = if is_keyword letters then None else Some letters
pick_name (Number n) = None
pick_name (Quoted letters) = None

abbrev pub pick_part : Symbol → Option Letters
pick_part (Key k) = Some (letters k)
pick_part (Sign n) = None
pick_part (Identifier name) = if is_keyword name then None else Some name
pick_part (Number n) = None
pick_part (Quoted letters) = None

-- The literals of one symbol.
abbrev pub pick_constant : Symbol → Option Literal
pick_constant (Key n) = if is kw_true (Key n) then Some (Boolean true) else if is kw_false (Key n) then Some (Boolean false) else None
pick_constant (Sign n) = None
pick_constant (Identifier letters) = None
pick_constant (Number n) = Some (Integer n)
pick_constant (Quoted letters) = Some (Text letters)

abbrev pub read_name : Reader Symbol Letters
read_name = one pick_name

abbrev pub read_part : Reader Symbol Letters
read_part = one pick_part

abbrev pub name_rule : Rule Symbol Letters
name_rule = one_rule is_name Identifier

abbrev pub part_rule : Rule Symbol Letters
part_rule = one_rule any_part part

-- Parts, each behind a dot.
abbrev pub read_dotted : Reader Symbol (List Letters)
read_dotted = many (is dot) (preceded (is dot) read_part)

abbrev pub dotted_rule : Rule Symbol (List Letters)
dotted_rule = many_rule (is dot) (preceded_rule dot part_rule)

abbrev pub path_of : Letters × List Letters → Path
path_of found = found.0 ∷ found.1

abbrev pub read_path : Reader Symbol Path
read_path = mapped path_of (sequence read_name read_dotted)

abbrev pub path_ends : Path → Option Symbol → Bool
path_ends [] beyond = true
path_ends (variable ∷ parts) beyond = dotted_rule.ends parts beyond

abbrev pub path_rule : Rule Symbol Path
path_rule = record { fits = path_fits; spelling = path; ends = path_ends }

abbrev pub read_component_path : Reader Symbol Path
read_component_path = mapped path_of (sequence read_name (preceded (is dot) (separated (is dot) read_part)))

abbrev pub component_path_ends : Path → Option Symbol → Bool
component_path_ends [] beyond = true
component_path_ends (variable ∷ []) beyond = true
component_path_ends (variable ∷ p ∷ parts) beyond = dotted_rule.ends parts beyond

abbrev pub component_path_rule : Rule Symbol Path
component_path_rule = record { fits = component_path_fits; spelling = path; ends = component_path_ends }

-- A literal or a path: behind a name, `#` goes on to a value of an enumeration, and `.` to a part.
abbrev pub is_constant : Symbol → Bool
is_constant x = is_some (pick_constant x)

abbrev pub behind_name : Reader Symbol (Letters ⊎ List Letters)
behind_name = choice (is hash) (preceded (is hash) read_part) read_dotted

abbrev pub behind_name_rule : Rule Symbol (Letters ⊎ List Letters)
behind_name_rule = choice_rule (is hash) (preceded_rule hash part_rule) dotted_rule

abbrev pub named : Letters → Letters ⊎ List Letters → Atom
named name (inl value) = Constant (Tag name value)
named name (inr parts) = Place (name ∷ parts)

abbrev pub atom_of : Literal ⊎ (Letters × (Letters ⊎ List Letters)) → Atom
atom_of (inl l) = Constant l
atom_of (inr found) = named found.0 found.1

abbrev pub read_atom : Reader Symbol Atom
read_atom = mapped atom_of (choice is_constant (one pick_constant) (sequence read_name behind_name))

abbrev pub atom_ends : Atom → Option Symbol → Bool
atom_ends (Constant l) beyond = true
atom_ends (Place []) beyond = true
atom_ends (Place (variable ∷ parts)) beyond = behind_name_rule.ends (inr parts) beyond

abbrev pub atom_rule : Rule Symbol Atom
atom_rule = record { fits = atom_fits; spelling = atom; ends = atom_ends }

-- Where the reading of an expression of a level ends: at a symbol that goes on at no level up to its own.
abbrev mutual
  pub expression_ends : Expression → ℕ → Option Symbol → Bool
  expression_ends (Chain first rest) zero beyond = true
  expression_ends (Chain first rest) (suc n) beyond = expression_ends first n (ahead (operands rest) beyond) && operands_end rest n beyond
  expression_ends (Compare left right) zero beyond = true
  expression_ends (Compare left right) (suc n) beyond = expression_ends left n (ahead (comparison right) beyond) && comparison_ends right n beyond
  expression_ends (Unary operator p) n beyond = primary_ends p beyond

  pub operands_end : Operands → ℕ → Option Symbol → Bool
  operands_end NoOperand n beyond = not (passes (is_operator (suc n)) beyond)
  operands_end (Operand operator e rest) n beyond = is_operator (suc n) operator && (expression_ends e n (ahead (operands rest) beyond) && operands_end rest n beyond)

  pub comparison_ends : Comparison → ℕ → Option Symbol → Bool
  comparison_ends NoComparison n beyond = not (passes (is_operator (suc n)) beyond)
  comparison_ends (With operator e) n beyond = is_operator (suc n) operator && expression_ends e n beyond

  pub primary_ends : Primary → Option Symbol → Bool
  primary_ends (Simple a) beyond = atom_ends a beyond
  primary_ends (Size p) beyond = true
  primary_ends (Paren e) beyond = true
  primary_ends (TextOf e) beyond = true
  primary_ends (LengthOf e) beyond = true

abbrev pub expression_rule : ℕ → ℕ → Rule Symbol Expression
expression_rule n depth = record { fits = λ e. expression_fits e n depth; spelling = expression; ends = λ e beyond. expression_ends e n beyond }

abbrev pub primary_rule : ℕ → Rule Symbol Primary
primary_rule depth = record { fits = λ p. primary_fits p depth; spelling = primary; ends = primary_ends }

-- `(` and what is read up to `)`.
abbrev pub in_parens : {A : Type 0} → Reader Symbol A → Reader Symbol A
in_parens read = preceded (is paren_open) (terminated (is paren_close) read)

-- An operand with no expression in it.
abbrev pub simple_of : Path ⊎ Atom → Primary
simple_of (inl p) = Size p
simple_of (inr a) = Simple a

abbrev pub read_simple : Reader Symbol Primary
read_simple = mapped simple_of (choice (is kw_size) (preceded (is kw_size) (in_parens read_path)) read_atom)

abbrev pub primary_of : Expression ⊎ (Expression ⊎ (Expression ⊎ Primary)) → Primary
primary_of (inl e) = Paren e
primary_of (inr (inl e)) = TextOf e
primary_of (inr (inr (inl e))) = LengthOf e
primary_of (inr (inr (inr p))) = p

abbrev pub read_primary : Reader Symbol Expression → Reader Symbol Primary
read_primary read = mapped primary_of (choice (is paren_open) (in_parens read)
    (choice (is kw_text) (preceded (is kw_text) (in_parens read))
    (choice (is kw_length) (preceded (is kw_length) (in_parens read)) read_simple)))

abbrev pub unary_of : (Symbol × Primary) ⊎ Primary → Expression
unary_of (inl found) = Unary (Some found.0) found.1
unary_of (inr p) = Unary None p

abbrev pub read_unary : Reader Symbol Primary → Reader Symbol Expression
read_unary read = mapped unary_of (choice is_sign (sequence (one (pick_by is_sign)) read) read)

-- A chain of a level over operands of the level below.
abbrev pub operands_of : List (Symbol × Expression) → Operands
operands_of [] = NoOperand
operands_of (found ∷ others) = Operand found.0 found.1 (operands_of others)

abbrev pub chain_of : Expression × List (Symbol × Expression) → Expression
chain_of found = Chain found.0 (operands_of found.1)

abbrev pub read_chain : ℕ → Reader Symbol Expression → Reader Symbol Expression
read_chain n read = mapped chain_of (sequence read (many (is_operator n) (sequence (one (pick_by (is_operator n))) read)))

abbrev pub compared_of : (Symbol × Expression) ⊎ Unit {0} → Comparison
compared_of (inl found) = With found.0 found.1
compared_of (inr none) = NoComparison

abbrev pub comparison_of : Expression × ((Symbol × Expression) ⊎ Unit {0}) → Expression
comparison_of found = Compare found.0 (compared_of found.1)

abbrev pub read_comparison : ℕ → Reader Symbol Expression → Reader Symbol Expression
read_comparison n read = mapped comparison_of (sequence read (choice (is_operator n) (sequence (one (pick_by (is_operator n))) read) nothing))

abbrev pub read_levels : Reader Symbol Primary → Reader Symbol Expression
read_levels read = read_chain 5 (read_chain 4 (read_comparison 3 (read_chain 2 (read_chain 1 (read_unary read)))))

-- Expressions whose parts stand in one another no deeper than this.
abbrev pub read_expression : ℕ → Reader Symbol Expression
read_expression zero = read_levels read_simple
read_expression (suc depth) = read_levels (read_primary (read_expression depth))
