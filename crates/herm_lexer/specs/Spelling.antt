-- How the bytes of a source file spell its tokens (Language reference, "Tokens").
use Rattle.std.specs.Prelude.{◌≡◌, ◌≢◌, ℕ, pos, negsuc, ◌+◌, ◌≤◌, ◌==◌, ◌||◌, Bool, false, IsTrue, IsFalse, List, [], ◌∷◌, ◌++◌, length, if◌then◌else◌}
use Rattle.std.specs.List.{AllByRecursion, flat_map}
use Rattle.herm_base.specs.Decimal.{IsDecimalText}
use Rattle.herm_model.specs.Escapes.{escaped}
use Rattle.herm_lexer.specs.Bytes.{is_blank, is_line_byte, is_name_byte}
pub use Rattle.herm_alphabet.specs.Tokens.{IsName, is_content, IsWithinLimit}
use Rattle.herm_alphabet.specs.KeywordLetters.{letters, characters}
use Rattle.herm_alphabet.specs.declared.token.Token.{Token}
use Rattle.herm_alphabet.specs.declared.token.TokenKind.{TokenKind}
use Rattle.herm_alphabet.specs.declared.token.TokenKind.TheVariants.{Key, Ident, Int, Text, Sign}
use Rattle.herm_alphabet.specs.declared.keyword.Keyword.{Keyword}
use Rattle.herm_alphabet.specs.declared.sign.Mark.{Mark}
use Rattle.herm_alphabet.specs.declared.sign.Mark.TheVariants as marks
use Rattle.herm_lexer.specs.declared.piece.Piece.{Piece}
use Rattle.herm_lexer.specs.declared.piece.Piece.TheVariants.{Blank, Comment, Token as Lexeme}

-- ---- tokens

-- The bytes that a token is written as, of whatever length: the letters of a keyword, another name,
-- the decimal text of a number, the content of a string between two `"`, and the characters of a sign.
abbrev pub Spells : TokenKind → List ℕ → Type 0
Spells (Key keyword) text = text ≡ letters keyword
Spells (Ident name) text = (text ≡ name) × IsName name × ((keyword : Keyword) → name ≢ letters keyword)
Spells (Int (pos n)) text = IsDecimalText n text
Spells (Int (negsuc n)) text = ⊥
Spells (Text content) text =
    (text ≡ 34 ∷ flat_map escaped content ++ 34 ∷ []) × AllByRecursion (λ b. IsTrue (is_content b)) content
Spells (Sign mark) text = text ≡ characters mark

-- ---- pieces

-- a piece is a byte of white space, a comment, which is `--` and bytes of one line, or a token
abbrev pub SpellsPiece : Piece → List ℕ → Type 0
SpellsPiece Blank text = (b : ℕ) × (text ≡ b ∷ []) × IsTrue (is_blank b)
SpellsPiece Comment text =
    (line : List ℕ) × (text ≡ 45 ∷ 45 ∷ line) × AllByRecursion (λ b. IsTrue (is_line_byte b)) line
SpellsPiece (Lexeme kind) text = Spells kind text

-- a sign with this byte behind it begins a longer sign or a comment
abbrev pub sign_goes_on : Mark → ℕ → Bool
sign_goes_on marks.Colon b = b == 61
sign_goes_on marks.Less b = b == 61 || b == 62
sign_goes_on marks.Greater b = b == 61
sign_goes_on marks.Minus b = b == 45
sign_goes_on _ b = false

-- A piece does not stand directly before these bytes: a name or a number before a letter, a digit or `_`,
-- a comment before a byte of its line, a sign before what makes it longer.
abbrev pub piece_goes_on : Piece → ℕ → Bool
piece_goes_on Blank b = false
piece_goes_on Comment b = is_line_byte b
piece_goes_on (Lexeme (Key keyword)) b = is_name_byte b
piece_goes_on (Lexeme (Ident name)) b = is_name_byte b
piece_goes_on (Lexeme (Int n)) b = is_name_byte b
piece_goes_on (Lexeme (Text content)) b = false
piece_goes_on (Lexeme (Sign mark)) b = sign_goes_on mark b

-- the piece ends where these bytes follow
abbrev pub Ends : Piece → List ℕ → Type 0
Ends piece [] = Unit {0}
Ends piece (b ∷ bs) = IsFalse (piece_goes_on piece b)

abbrev pub IsPieceWithinLimit : Piece → Type 0
IsPieceWithinLimit Blank = Unit {0}
IsPieceWithinLimit Comment = Unit {0}
IsPieceWithinLimit (Lexeme kind) = IsWithinLimit kind

-- ---- files

-- a piece of a file, with its bytes
pub record Part : Type 0 where
  pub piece : Piece
  pub text : List ℕ

-- the part is spelled so, is within its limit, and ends where the rest follows
pub record IsPart (part : Part) (rest : List ℕ) : Type 0 where
  pub spelled : SpellsPiece part.piece part.text
  pub within : IsPieceWithinLimit part.piece
  pub ended : Ends part.piece rest

-- the bytes of parts, one after the other
abbrev pub text_of : List Part → List ℕ
text_of [] = []
text_of (part ∷ parts) = part.text ++ text_of parts

-- these are parts that stand one after the other, and then the rest
abbrev pub AreParts : List Part → List ℕ → Type 0
AreParts [] rest = Unit {0}
AreParts (part ∷ parts) rest = IsPart part (text_of parts ++ rest) × AreParts parts rest

-- the token that a piece of n bytes is, with its place
abbrev pub token_at : ℕ → Piece → ℕ → List Token
token_at start Blank n = []
token_at start Comment n = []
token_at start (Lexeme kind) n = record { kind = kind; span = record { start = start; end = start + n } } ∷ []

-- the tokens of parts, of which the first begins at start
abbrev pub tokens_of : ℕ → List Part → List Token
tokens_of start [] = []
tokens_of start (part ∷ parts) = token_at start part.piece (length part.text) ++ tokens_of (start + length part.text) parts

-- the bytes are parts with these tokens, and then the rest
pub record ReadTo (bytes rest : List ℕ) (tokens : List Token) : Type 0 where
  pub parts : List Part
  pub whole : bytes ≡ text_of parts ++ rest
  pub each : AreParts parts rest
  pub listed : tokens ≡ tokens_of 0 parts

-- a file of at most 1,048,576 bytes, which are parts with these tokens to its end
pub record HasTokens (bytes : List ℕ) (tokens : List Token) : Type 0 where
  pub short : length bytes ≤ 1048576
  pub read : ReadTo bytes [] tokens

-- a name that is no keyword
abbrev pub IsOrdinary : TokenKind → Type 0
IsOrdinary (Key keyword) = Unit {0}
IsOrdinary (Ident name) = (keyword : Keyword) → name ≢ letters keyword
IsOrdinary (Int n) = Unit {0}
IsOrdinary (Text content) = Unit {0}
IsOrdinary (Sign mark) = Unit {0}
