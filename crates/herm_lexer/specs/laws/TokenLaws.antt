-- What holds of every file (Language reference, "Tokens").
use Rattle.std.specs.Prelude.{◌≡◌, ℕ, ◌<◌, ◌≤◌, ◌⊎◌, ◌↔◌, List, [], ◌∷◌, ◌++◌, map, length, slice_range}
use Rattle.std.specs.List.{AllByRecursion}
use Rattle.herm_lexer.specs.Spelling.{Spells, SpellsPiece, Ends, HasTokens}
use Rattle.herm_lexer.specs.Faults.{HasFault}
use Rattle.herm_lexer.specs.declared.piece.Piece.{Piece}
use Rattle.herm_lexer.specs.declared.piece.Piece.TheVariants.{Blank, Comment, Token as Lexeme}
use Rattle.herm_alphabet.specs.declared.token.TokenKind.TheVariants.{Key, Ident, Int, Text, Sign}
use Rattle.herm_alphabet.specs.declared.token.Token.{Token}
use Rattle.herm_alphabet.specs.Tokens.{IsSourceKind}
use Rattle.herm_lexer.specs.declared.fault.LexFault.{LexFault}

-- a file has one token list
abbrev pub OneTokenList : Type 0
OneTokenList = (bytes : List ℕ) (tokens others : List Token) → HasTokens bytes tokens → HasTokens bytes others → tokens ≡ others

-- a file has one fault
abbrev pub OneFault : Type 0
OneFault = (bytes : List ℕ) (fault other : LexFault) → HasFault bytes fault → HasFault bytes other → fault ≡ other

-- a token list and a fault exclude each other
abbrev pub TokensOrFault : Type 0
TokensOrFault = (bytes : List ℕ) (tokens : List Token) (fault : LexFault) → HasTokens bytes tokens → HasFault bytes fault → ⊥

-- a file has a token list or a fault
abbrev pub TokensElseFault : Type 0
TokensElseFault = (bytes : List ℕ) → ((tokens : List Token) × HasTokens bytes tokens) ⊎ ((fault : LexFault) × HasFault bytes fault)

-- the bytes at a token's place spell it
abbrev pub IsSpelledIn : List ℕ → Token → Type 0
IsSpelledIn bytes token = Spells token.kind (slice_range bytes token.span.start token.span.end)

-- places stand one behind the other, from start up to the end
abbrev pub AreRising : ℕ → List Token → ℕ → Type 0
AreRising start [] end = start ≤ end
AreRising start (token ∷ tokens) end = (start ≤ token.span.start) × (token.span.start < token.span.end) × AreRising token.span.end tokens end

-- the tokens of a file spell it, each at its place, from left to right
abbrev pub TokensSpellFile : Type 0
TokensSpellFile = (bytes : List ℕ) (tokens : List Token) → HasTokens bytes tokens → AllByRecursion (IsSpelledIn bytes) tokens × AreRising 0 tokens (length bytes)

-- the tokens of a file are ones that a source file can have
abbrev pub TokensAreSource : Type 0
TokensAreSource = (bytes : List ℕ) (tokens : List Token) → HasTokens bytes tokens → AllByRecursion IsSourceKind (map (λ (t : Token). t.kind) tokens)

-- no other piece is spelled by more of the bytes from there on
abbrev pub IsLongest : List ℕ → List ℕ → Type 0
IsLongest text rest = (other : Piece) (longer more : List ℕ) → SpellsPiece other longer → text ++ rest ≡ longer ++ more → length longer ≤ length text

-- a number does not run into a letter, a digit or `_`
abbrev pub IsApart : Piece → List ℕ → Type 0
IsApart Blank rest = Unit {0}
IsApart Comment rest = Unit {0}
IsApart (Lexeme (Key keyword)) rest = Unit {0}
IsApart (Lexeme (Ident name)) rest = Unit {0}
IsApart (Lexeme (Int n)) rest = Ends (Lexeme (Int n)) rest
IsApart (Lexeme (Text content)) rest = Unit {0}
IsApart (Lexeme (Sign mark)) rest = Unit {0}

-- a piece ends just where it is the longest there, and a number besides runs into no name
abbrev pub PiecesAreLongest : Type 0
PiecesAreLongest = (piece : Piece) (text rest : List ℕ) → SpellsPiece piece text → (Ends piece rest ↔ (IsLongest text rest × IsApart piece rest))
