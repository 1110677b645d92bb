-- Reading from left to right: what stands at the front of the bytes, with its length.
use Rattle.std.specs.Prelude.{◌≡◌, ℕ, ℤ, pos, ◌+◌, ◌-◌, ◌*◌, ◌^◌, ◌<◌, ◌≤◌, ◌==◌, ◌||◌, ◌&&◌, not, true, false, Bool, List, [], ◌∷◌, length, take, drop, slice_index, Option, Some, None, Result, Ok, Err, nat_lt, if◌then◌else◌}
use Rattle.std.specs.Char.{is_ascii_alphabetic, is_ascii_digit}
use Rattle.std.specs.Int.{is_in_range}
use Rattle.herm_lexer.specs.Bytes.{is_blank, is_allowed, is_name_byte}
use Rattle.herm_alphabet.specs.KeywordLetters.{keyword_of}
use Rattle.herm_lexer.specs.Runs.{run_length}
use Rattle.herm_lexer.specs.declared.run.Run.TheVariants.{Name, Digits, Line, Inside}
use Rattle.herm_alphabet.specs.declared.token.TokenKind.{TokenKind}
use Rattle.herm_alphabet.specs.declared.token.TokenKind.TheVariants.{Key, Ident, Int, Text, Sign}
use Rattle.herm_alphabet.specs.declared.keyword.Keyword.{Keyword}
use Rattle.herm_alphabet.specs.declared.sign.Mark.{Mark}
use Rattle.herm_alphabet.specs.declared.sign.Mark.TheVariants.{ParenOpen, ParenClose, BraceOpen, BraceClose, BracketOpen, BracketClose, Comma, Semicolon, Colon, Becomes, Dot, Hash, Equal, NotEqual, Less, LessEqual, Greater, GreaterEqual, Plus, Minus, Star, Ampersand}
use Rattle.herm_lexer.specs.declared.piece.Piece.{Piece}
use Rattle.herm_lexer.specs.declared.piece.Piece.TheVariants.{Blank, Comment, Token as Lexeme}
use Rattle.herm_lexer.specs.declared.fault.LexFault.{LexFault}
use Rattle.herm_lexer.specs.declared.fault.LexFault.TheVariants as faults
use Rattle.herm_lexer.specs.declared.piece.Stop.{Stop}
use Rattle.herm_lexer.specs.declared.piece.Stop.TheVariants as stops

-- What a function returned is what reading gives, unless memory ran out.
abbrev pub Fails : {A : Type 0} → Stop → Result A Stop → Type 0
Fails (stops.Byte n) read = read ≡ Err (stops.Byte n)
Fails stops.Token read = read ≡ Err stops.Token
Fails stops.TooLong read = read ≡ Err stops.TooLong
Fails stops.Memory read = Unit {0}

abbrev pub Gives : {A : Type 0} → Result A Stop → Result A Stop → Type 0
Gives (Ok x) read = read ≡ Ok x
Gives (Err stop) read = Fails stop read

-- the fault of a file, of which the bytes that were read begin at start
abbrev pub placed : ℕ → Stop → LexFault
placed start (stops.Byte n) = faults.Byte (start + n)
placed start stops.Token = faults.Token start
placed start stops.TooLong = faults.TooLong start
placed start stops.Memory = faults.Memory

-- a keyword or another name
abbrev pub kind_of : Option Keyword → List ℕ → TokenKind
kind_of (Some keyword) text = Key keyword
kind_of None text = Ident text

abbrev pub name_of : ℕ → List ℕ → Result (Piece × ℕ) Stop
name_of n text = if nat_lt 64 n then Err stops.TooLong else Ok (Lexeme (kind_of (keyword_of text) text), n)

unfoldable pub name_at : List ℕ → Result (Piece × ℕ) Stop
name_at bytes = name_of (run_length Name false bytes) (take (run_length Name false bytes) bytes)

-- a run of n digits that begins with 0 and goes on, or that runs into a name
abbrev pub is_misspelled : List ℕ → ℕ → Bool
is_misspelled bytes n = (slice_index bytes 0 == 48 && nat_lt 1 n) || is_name_byte (slice_index bytes n)

-- the number that digits write behind those of n
abbrev pub value_after : ℕ → List ℕ → ℕ
value_after n [] = n
value_after n (b ∷ bs) = value_after (n * 10 + (b - 48)) bs

-- the integer of a value, if it is within the limit
abbrev pub integer : ℕ → Option ℤ
integer value = if nat_lt value (2 ^ 63) then Some (pos value) else None

abbrev pub integer_of : ℕ → Option ℤ → Result (Piece × ℕ) Stop
integer_of n None = Err stops.TooLong
integer_of n (Some value) = Ok (Lexeme (Int value), n)

abbrev pub number_of : List ℕ → ℕ → Result (Piece × ℕ) Stop
number_of bytes n = if is_misspelled bytes n then Err stops.Token else integer_of n (integer (value_after 0 (take n bytes)))

unfoldable pub number_at : List ℕ → Result (Piece × ℕ) Stop
number_at bytes = number_of bytes (run_length Digits false bytes)

-- what a byte behind a `\` stands for
abbrev pub unescaped : ℕ → Option ℕ
unescaped b = if b == 110 then Some 10 else if b == 34 then Some 34 else if b == 92 then Some 92 else None

-- a byte of content before the rest of it
abbrev pub before : Option ℕ → Option (List ℕ) → Option (List ℕ)
before None content = None
before (Some b) None = None
before (Some b) (Some bs) = Some (b ∷ bs)

-- what a byte between two `"` stands for, behind a `\` or not
abbrev pub content_byte : Bool → ℕ → Option ℕ
content_byte escaping b = if escaping then unescaped b else if is_in_range 32 126 b then Some b else None

-- the content that the bytes between two `"` spell
abbrev pub content_of : Bool → List ℕ → Option (List ℕ)
content_of escaping [] = if escaping then None else Some []
content_of escaping (b ∷ bs) = if not escaping && b == 92 then content_of true bs
    else before (content_byte escaping b) (content_of false bs)

-- a string with n bytes between its two `"`
abbrev pub text_of_content : ℕ → Option (List ℕ) → Result (Piece × ℕ) Stop
text_of_content n None = Err stops.Token
text_of_content n (Some content) = if nat_lt 4096 (length content) then Err stops.TooLong else Ok (Lexeme (Text content), n + 2)

-- a string whose run of n bytes is over: at the end, at its `"`, at a newline, or at a stray byte
abbrev pub string_of : List ℕ → ℕ → Result (Piece × ℕ) Stop
string_of bytes n = if n == length bytes then Err stops.Token
    else if slice_index bytes n == 34 then text_of_content n (content_of false (take n bytes))
    else if slice_index bytes n == 10 then Err stops.Token else Err (stops.Byte (n + 1))

-- the string at the front, whose `"` is not among these bytes
unfoldable pub string_at : List ℕ → Result (Piece × ℕ) Stop
string_at bytes = string_of bytes (run_length Inside false bytes)

-- the signs of two characters, and of one
abbrev pub double_sign : ℕ → ℕ → Option Mark
double_sign b next = if b == 58 && next == 61 then Some Becomes
    else if b == 60 && next == 62 then Some NotEqual
    else if b == 60 && next == 61 then Some LessEqual
    else if b == 62 && next == 61 then Some GreaterEqual else None

abbrev pub single_signs : List (ℕ × Mark)
single_signs = (40, ParenOpen) ∷ (41, ParenClose) ∷ (123, BraceOpen) ∷ (125, BraceClose) ∷ (91, BracketOpen) ∷ (93, BracketClose)
    ∷ (44, Comma) ∷ (59, Semicolon) ∷ (58, Colon) ∷ (46, Dot) ∷ (35, Hash) ∷ (61, Equal) ∷ (60, Less) ∷ (62, Greater)
    ∷ (43, Plus) ∷ (45, Minus) ∷ (42, Star) ∷ (38, Ampersand) ∷ []

abbrev pub sign_among : ℕ → List (ℕ × Mark) → Option Mark
sign_among b [] = None
sign_among b (sign ∷ signs) = if b == sign.0 then Some sign.1 else sign_among b signs

unfoldable pub single_sign : ℕ → Option Mark
single_sign b = sign_among b single_signs

-- a sign, or no token
abbrev pub single_of : ℕ → Option Mark → Result (Piece × ℕ) Stop
single_of b (Some mark) = Ok (Lexeme (Sign mark), 1)
single_of b None = if is_allowed b then Err stops.Token else Err (stops.Byte 0)

abbrev pub sign_of : ℕ → Option Mark → Result (Piece × ℕ) Stop
sign_of b (Some mark) = Ok (Lexeme (Sign mark), 2)
sign_of b None = single_of b (single_sign b)

unfoldable pub sign_at : ℕ → ℕ → Result (Piece × ℕ) Stop
sign_at b next = sign_of b (double_sign b next)

-- the piece at the front of bytes of which the first is b and the second is next
abbrev pub piece_of : ℕ → ℕ → List ℕ → Result (Piece × ℕ) Stop
piece_of b next bytes = if is_blank b then Ok (Blank, 1)
    else if is_ascii_alphabetic b then name_at bytes
    else if is_ascii_digit b then number_at bytes
    else if b == 34 then string_at (drop 1 bytes)
    else if b == 45 && next == 45 then Ok (Comment, run_length Line false (drop 2 bytes) + 2)
    else sign_at b next

unfoldable pub piece_at : List ℕ → Result (Piece × ℕ) Stop
piece_at bytes = piece_of (slice_index bytes 0) (slice_index bytes 1) bytes

-- a piece has some bytes, and a stray byte is one of them
abbrev pub IsWithin : List ℕ → Result (Piece × ℕ) Stop → Type 0
IsWithin bytes (Ok found) = (0 < found.1) × (found.1 ≤ length bytes)
IsWithin bytes (Err (stops.Byte n)) = n < length bytes
IsWithin bytes (Err stops.Token) = Unit {0}
IsWithin bytes (Err stops.TooLong) = Unit {0}
IsWithin bytes (Err stops.Memory) = Unit {0}

-- the place of a stop is a number of 32 bits
abbrev pub IsFewFrom : ℕ → Stop → Type 0
IsFewFrom start (stops.Byte n) = start + n < 2 ^ 32
IsFewFrom start stops.Token = start < 2 ^ 32
IsFewFrom start stops.TooLong = start < 2 ^ 32
IsFewFrom start stops.Memory = Unit {0}
