-- The laws of the grammar.
use Rattle.std.specs.Prelude.{◌≡◌, ◌≢◌, ℕ, zero, suc, List, [], ◌∷◌, ◌++◌, map, length, None}
use Rattle.std.specs.List.{AllByRecursion}
use Rattle.herm_alphabet.specs.Tokens.{IsSourceKind}
use Rattle.herm_readers.specs.Reader.{Reader, Read, Fault, Reads}
use Rattle.herm_readers.specs.BracketBalance.{too_deep}
use Rattle.herm_syntax.specs.declared.modules.Module.{Module as ModuleForm}
use Rattle.herm_syntax.specs.Symbols.{Symbol, side}
use Rattle.herm_syntax.specs.Trees.{Module}
use Rattle.herm_syntax.specs.Spelling.{file}
use Rattle.herm_syntax.specs.Fitting.{IsFile}
use Rattle.herm_syntax.specs.ReadExpressions.{expression_rule, read_expression}
use Rattle.herm_syntax.specs.ReadStatements.{statement_rule, read_statement, read_statements}
use Rattle.herm_syntax.specs.ReadModules.{file_rule, read_file}
use Rattle.herm_syntax.specs.View.{module_view}
use Rattle.herm_syntax.specs.StatementNumbers.{module_numbers}

-- The readers read the rules, at any depth.
abbrev pub ExpressionsAreRead : Type 0
ExpressionsAreRead = (depth : ℕ) → Reads (expression_rule 5 depth) (read_expression depth)

abbrev pub StatementsAreRead : Type 0
StatementsAreRead = (depth : ℕ) → Reads (statement_rule depth) (read_statement (read_expression depth) (read_statements depth))

abbrev pub FilesAreRead : Type 0
FilesAreRead = (depth : ℕ) → Reads (file_rule depth) (read_file depth)

-- No more brackets are open at once than there is room for: language reference, "Open brackets".
abbrev pub IsWithinRoom : ℕ → List Symbol → Type 0
IsWithinRoom room symbols = too_deep side symbols room ≡ None

-- The reader of files with room for so many open brackets: a depth of one more is enough.
abbrev pub read_within : ℕ → Reader Symbol (List Module)
read_within room = read_file (suc room)

-- What is read is a file with these symbols, all of them.
abbrev pub FileIsFound : Type 0
FileIsFound = (room : ℕ) (symbols rest : List Symbol) (modules : List Module) → read_within room symbols ≡ Read modules rest → IsFile modules × (symbols ≡ file modules) × (rest ≡ [])

-- A file whose symbols have room is read.
abbrev pub FileIsAgain : Type 0
FileIsAgain = (room : ℕ) (modules : List Module) → IsFile modules → IsWithinRoom room (file modules) → read_within room (file modules) ≡ Read modules []

-- The symbols before the last `count` ones begin a file.
pub record BeginsFile (symbols : List Symbol) (count : ℕ) : Type 0 where
  pub front : List Symbol
  pub left : List Symbol
  pub whole : symbols ≡ front ++ left
  pub counted : length left ≡ count
  pub modules : List Module
  pub is_file : IsFile modules
  pub completion : List Symbol
  pub completed : file modules ≡ front ++ completion

-- They begin a file of symbols that tokens of a source file can be: language reference, "Tokens".
pub record BeginsSource (symbols : List Symbol) (count : ℕ) : Type 0 where
  pub begins : BeginsFile symbols count
  pub source : AllByRecursion IsSourceKind (file begins.modules)

-- The place of a fault: the symbols before it begin a file, those up to it, with it, begin none, and no file
-- has exactly these symbols: language reference, "The place of a syntax fault".
abbrev pub FaultBegins : Type 0
FaultBegins = (room : ℕ) (symbols : List Symbol) (count : ℕ) → read_within room symbols ≡ Fault count → BeginsFile symbols count

abbrev pub FaultBeginsSource : Type 0
FaultBeginsSource = (room : ℕ) (symbols : List Symbol) (count : ℕ) → AllByRecursion IsSourceKind symbols → read_within room symbols ≡ Fault count → BeginsSource symbols count

abbrev pub FaultIsFirst : Type 0
FaultIsFirst = (room : ℕ) (front : List Symbol) (x : Symbol) (behind : List Symbol) → IsWithinRoom room (front ++ x ∷ behind) → read_within room (front ++ x ∷ behind) ≡ Fault (suc (length behind)) →
    (modules : List Module) (more : List Symbol) → IsFile modules → file modules ≢ front ++ x ∷ more

abbrev pub FaultHasNoFile : Type 0
FaultHasNoFile = (room : ℕ) (symbols : List Symbol) (count : ℕ) → IsWithinRoom room symbols → read_within room symbols ≡ Fault count → (modules : List Module) → IsFile modules → file modules ≢ symbols

-- Two files with the same symbols are one.
abbrev pub HasOneFile : Type 0
HasOneFile = (a b : List Module) → IsFile a → IsFile b → file a ≡ file b → a ≡ b

-- The numbers from a first one on, so many.
abbrev pub counting : ℕ → ℕ → List ℕ
counting first zero = []
counting first (suc count) = first ∷ counting (suc first) count

-- The statements of a process are numbered from 1 on, in the order of the text: language reference, "Numbers of statements".
abbrev pub IsNumbered : ModuleForm → Type 0
IsNumbered m = (count : ℕ) × (module_numbers m ≡ counting 1 count)

-- Trees of the program that the grammar can spell, with their statements numbered.
pub record IsProgram (modules : List ModuleForm) : Type 0 where
  pub fits : IsFile (map module_view modules)
  pub numbered : AllByRecursion IsNumbered modules

-- Two programs with the same symbols are equal but for their places in the text: their views are equal, and
-- so are the numbers of their statements: language reference, "One tree".
abbrev pub HasOneProgram : Type 0
HasOneProgram = (a b : List ModuleForm) → IsProgram a → IsProgram b → file (map module_view a) ≡ file (map module_view b) → (map module_view a ≡ map module_view b) × (map module_numbers a ≡ map module_numbers b)
