-- The faults of a source file (Language reference, "Tokens", "Faults of bytes and tokens").
use Rattle.std.specs.Prelude.{◌≡◌, ℕ, ◌+◌, ◌-◌, ◌<◌, ◌≤◌, ◌⊎◌, false, Bool, IsTrue, IsFalse, List, [], ◌∷◌, ◌++◌, length, take, slice_index}
use Rattle.std.specs.List.{AllByRecursion}
use Rattle.std.specs.Char.{is_ascii_digit}
use Rattle.herm_lexer.specs.Bytes.{is_blank, is_allowed, is_name_byte}
use Rattle.herm_lexer.specs.Runs.{Goes, Stops}
use Rattle.herm_lexer.specs.Spelling.{Spells, IsWithinLimit, Ends, ReadTo}
use Rattle.herm_lexer.specs.declared.run.Run.TheVariants.{Digits, Inside}
use Rattle.herm_alphabet.specs.declared.token.Token.{Token}
use Rattle.herm_alphabet.specs.declared.token.TokenKind.{TokenKind}
use Rattle.herm_alphabet.specs.declared.token.TokenKind.TheVariants.{Text}
use Rattle.herm_lexer.specs.declared.piece.Piece.TheVariants.{Token as Lexeme}
use Rattle.herm_lexer.specs.declared.fault.LexFault.{LexFault}
use Rattle.herm_lexer.specs.declared.fault.LexFault.TheVariants as faults

-- a `"` and bytes behind it that leave the string open, whether the last of them escapes or not
abbrev pub IsOpenString : List ℕ → Bool → Type 0
IsOpenString text escaping = (inside : List ℕ) × (text ≡ 34 ∷ inside) × Goes Inside false inside escaping

-- a byte outside the allowed ones, at the front or in a string that is open there
pub record HasStrayByte (bytes before : List ℕ) : Type 0 where
  pub stray : ℕ
  pub after : List ℕ
  pub parts : bytes ≡ before ++ stray ∷ after
  pub outside : IsFalse (is_allowed stray)
  pub place : (before ≡ []) ⊎ ((escaping : Bool) × IsOpenString before escaping)

-- a string that is open at the end of its line or of the file
pub record IsUnclosedString (bytes : List ℕ) : Type 0 where
  pub text : List ℕ
  pub after : List ℕ
  pub parts : bytes ≡ text ++ after
  pub escaping : Bool
  pub opened : IsOpenString text escaping
  pub ended : (after ≡ []) ⊎ ((others : List ℕ) × (after ≡ 10 ∷ others))

-- a string that is closed, but is no content's spelling: it has another escape, a tab or a carriage return
pub record IsMisspelledString (bytes : List ℕ) : Type 0 where
  pub text : List ℕ
  pub after : List ℕ
  pub parts : bytes ≡ text ++ 34 ∷ after
  pub opened : IsOpenString text false
  pub misspelled : (content : List ℕ) → Spells (Text content) (text ++ 34 ∷ []) → ⊥

-- a run of digits that begins with 0 and goes on, or that runs into a letter or `_`
pub record IsMisspelledNumber (bytes : List ℕ) : Type 0 where
  pub digits : List ℕ
  pub after : List ℕ
  pub parts : bytes ≡ digits ++ after
  pub some : 0 < length digits
  pub run : AllByRecursion (λ b. IsTrue (is_ascii_digit b)) digits
  pub ended : Stops Digits false after
  pub misspelled :
      ((slice_index digits 0 ≡ 48) × (2 ≤ length digits)) ⊎ IsTrue (is_name_byte (slice_index after 0))

-- an allowed byte that is no white space and begins no token
pub record BeginsNoToken (bytes : List ℕ) : Type 0 where
  pub first : ℕ
  pub after : List ℕ
  pub parts : bytes ≡ first ∷ after
  pub inside : IsTrue (is_allowed first)
  pub visible : IsFalse (is_blank first)
  pub begins : (kind : TokenKind) (more : List ℕ) → Spells kind (first ∷ more) → ⊥

-- a token beyond its limit
pub record IsTooLong (bytes : List ℕ) : Type 0 where
  pub kind : TokenKind
  pub text : List ℕ
  pub after : List ℕ
  pub parts : bytes ≡ text ++ after
  pub spelled : Spells kind text
  pub ended : Ends (Lexeme kind) after
  pub beyond : IsWithinLimit kind → ⊥

-- the fault of the bytes that stand at a place of the file
abbrev pub FaultAt : ℕ → List ℕ → LexFault → Type 0
FaultAt start bytes (faults.Byte place) =
    (before : List ℕ) × HasStrayByte bytes before × (place ≡ start + length before)
FaultAt start bytes (faults.Token place) = (place ≡ start)
    × (IsUnclosedString bytes ⊎ IsMisspelledString bytes ⊎ IsMisspelledNumber bytes ⊎ BeginsNoToken bytes)
FaultAt start bytes (faults.TooLong place) = (place ≡ start) × IsTooLong bytes
FaultAt start bytes faults.Memory = ⊥

-- a file is read up to 1,048,576 bytes
abbrev pub kept : List ℕ → List ℕ
kept bytes = take 1048576 bytes

-- before the fault stand parts, so it is the first from the left
pub record IsStoppedBy (bytes : List ℕ) (fault : LexFault) : Type 0 where
  pub rest : List ℕ
  pub tokens : List Token
  pub read : ReadTo bytes rest tokens
  pub first : FaultAt (length bytes - length rest) rest fault

-- a longer file without a fault before
pub record IsCut (bytes : List ℕ) (fault : LexFault) : Type 0 where
  pub longer : 1048576 < length bytes
  pub tokens : List Token
  pub read : ReadTo (kept bytes) [] tokens
  pub place : fault ≡ faults.TooLong 1048576

-- the fault of a file
abbrev pub HasFault : List ℕ → LexFault → Type 0
HasFault bytes fault = IsStoppedBy (kept bytes) fault ⊎ IsCut bytes fault
