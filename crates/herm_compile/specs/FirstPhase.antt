-- The first phase: each file as tokens and trees, or its one fault (Language reference, "Refusals").
use Rattle.std.specs.Prelude.{◌≡◌, ℕ, suc, Option, Some, None, List, [], ◌∷◌, ◌++◌, length, replicate}
use Rattle.herm_lexer.specs.Spelling.{HasTokens}
use Rattle.herm_lexer.specs.Faults.{HasFault}
use Rattle.herm_lexer.specs.declared.fault.LexFault.TheVariants as lexical
use Rattle.herm_alphabet.specs.declared.token.Token.{Token}
use Rattle.herm_syntax.specs.declared.modules.Module.{Module}
use Rattle.herm_parser.specs.Parsing.{IsParsed}
use Rattle.herm_parser.specs.BracketDepth.{IsNested}
use Rattle.herm_parser.specs.SyntaxFaults.{IsMisspelled}
use Rattle.herm_compile.specs.Places.{line_number_at, column_at}
use Rattle.herm_compile.specs.View.{Seen}
use Rattle.herm_compile.specs.declared.phase.FileFault.{FileFault}
use Rattle.herm_compile.specs.declared.phase.FileFault.TheVariants.{Byte, Token as NoToken, TooLong, Syntax, Nesting}
use Rattle.herm_compile.specs.RefusalWords.{fault_words}

-- The file has tokens, and these have the modules (Language reference, "Grammar").
pub record HasModules (bytes : List ℕ) (modules : List Module) : Type 0 where
  pub tokens : List Token
  pub read : HasTokens bytes tokens
  pub parsed : IsParsed tokens modules

-- The file has trees.
abbrev pub HasTrees : List ℕ → Type 0
HasTrees bytes = (modules : List Module) × HasModules bytes modules

-- The file has this fault: of its bytes and tokens (Language reference, "Faults of bytes and tokens"), or of the trees that its
-- tokens do not have (Language reference, "The place of a syntax fault", "Open brackets").
abbrev pub HasFileFault : List ℕ → FileFault → Type 0
HasFileFault bytes (Byte offset) = HasFault bytes (lexical.Byte offset)
HasFileFault bytes (NoToken offset) = HasFault bytes (lexical.Token offset)
HasFileFault bytes (TooLong offset) = HasFault bytes (lexical.TooLong offset)
HasFileFault bytes (Syntax offset) = (tokens : List Token) × HasTokens bytes tokens × IsMisspelled tokens offset
HasFileFault bytes (Nesting offset) = (tokens : List Token) × HasTokens bytes tokens × IsNested tokens offset

-- What is said of a file: its fault, or none where it has trees.
abbrev pub IsSaid : List ℕ → Option FileFault → Type 0
IsSaid bytes None = HasTrees bytes
IsSaid bytes (Some fault) = HasFileFault bytes fault

-- The code, the words and the place in bytes of a fault (Language reference, "Refusals").
abbrev pub fault_code : FileFault → ℕ
fault_code (Byte offset) = 1
fault_code (NoToken offset) = 2
fault_code (TooLong offset) = 3
fault_code (Syntax offset) = 4
fault_code (Nesting offset) = 5

abbrev pub fault_offset : FileFault → ℕ
fault_offset (Byte offset) = offset
fault_offset (NoToken offset) = offset
fault_offset (TooLong offset) = offset
fault_offset (Syntax offset) = offset
fault_offset (Nesting offset) = offset

-- The fault of the file with this number, at its line and column.
abbrev pub file_fault : ℕ → List ℕ → FileFault → Seen
file_fault number bytes fault = record {
  file = number;
  line = line_number_at bytes (fault_offset fault);
  column = column_at bytes (fault_offset fault);
  code = fault_code fault;
  words = fault_words fault;
  missing = None;
}

abbrev pub fault_list : ℕ → List ℕ → Option FileFault → List Seen
fault_list number bytes None = []
fault_list number bytes (Some fault) = file_fault number bytes fault ∷ []

-- The faults of the first phase, for the files from this number on in their order: of each its one fault, or none where it has trees.
abbrev pub AreFirstFaults : ℕ → List (List ℕ) → List Seen → Type 0
AreFirstFaults number [] faults = faults ≡ []
AreFirstFaults number (bytes ∷ files) faults =
    (said : Option FileFault) × IsSaid bytes said × (others : List Seen) × (faults ≡ fault_list number bytes said ++ others)
    × AreFirstFaults (suc number) files others

-- The files from this number on have these modules in order, each with the number of its file.
abbrev pub HaveModules : ℕ → List (List ℕ) → List Module → List ℕ → Type 0
HaveModules number [] modules owners = (modules ≡ []) × (owners ≡ [])
HaveModules number (bytes ∷ files) modules owners =
    (own : List Module) × HasModules bytes own × (others : List Module) × (behind : List ℕ)
    × (modules ≡ own ++ others) × (owners ≡ replicate (length own) number ++ behind) × HaveModules (suc number) files others behind

-- Each file has trees: the first phase has no fault.
abbrev pub HaveTrees : List (List ℕ) → Type 0
HaveTrees files = AreFirstFaults 0 files []

-- A file that has trees has no fault.
abbrev pub TreesOrFault : Type 0
TreesOrFault = (bytes : List ℕ) (fault : FileFault) → HasTrees bytes → HasFileFault bytes fault → ⊥
