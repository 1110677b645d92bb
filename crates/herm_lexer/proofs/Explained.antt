-- What a reading of the front of the bytes says of them.
use Rattle.std.proofs.Common.{◌≡◌, ℕ, ◌<◌, ◌⊎◌, List, ◌++◌, length, Ok, Err, Result}
use Rattle.herm_lexer.specs.Spelling.{IsPart}
use Rattle.herm_lexer.specs.Faults.{HasStrayByte, IsUnclosedString, IsMisspelledString, IsMisspelledNumber, BeginsNoToken, IsTooLong}
use Rattle.herm_lexer.specs.declared.piece.Piece.{Piece}
use Rattle.herm_lexer.specs.declared.piece.Stop.{Stop}
use Rattle.herm_lexer.specs.declared.piece.Stop.TheVariants as stops

-- a piece of n bytes stands at the front
pub record Found (bytes : List ℕ) (piece : Piece) (n : ℕ) : Type 0 where
  pub text : List ℕ
  pub rest : List ℕ
  pub whole : bytes ≡ text ++ rest
  pub len : length text ≡ n
  pub some : 0 < n
  pub part : IsPart (record { piece = piece; text = text }) rest

abbrev pub IsNoToken : List ℕ → Type 0
IsNoToken bytes = IsUnclosedString bytes ⊎ IsMisspelledString bytes ⊎ IsMisspelledNumber bytes ⊎ BeginsNoToken bytes

abbrev pub Explains : List ℕ → Result (Piece × ℕ) Stop → Type 0
Explains bytes (Ok found) = Found bytes found.0 found.1
Explains bytes (Err (stops.Byte n)) = (before : List ℕ) × HasStrayByte bytes before × (n ≡ length before)
Explains bytes (Err stops.Token) = IsNoToken bytes
Explains bytes (Err stops.TooLong) = IsTooLong bytes
Explains bytes (Err stops.Memory) = ⊥
