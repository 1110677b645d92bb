-- What a token of a source file can be (Language reference, "Tokens").
use Rattle.std.specs.Prelude.{◌≡◌, ◌≢◌, ℕ, pos, negsuc, ◌<◌, ◌≤◌, ◌^◌, ◌==◌, ◌||◌, Bool, IsTrue, List, [], ◌∷◌, length}
use Rattle.std.specs.List.{AllByRecursion}
use Rattle.std.specs.Char.{is_ascii_alphabetic, is_ascii_alphanumeric}
use Rattle.std.specs.Int.{is_in_range}
use Rattle.herm_alphabet.specs.KeywordLetters.{letters}
use Rattle.herm_alphabet.specs.declared.keyword.Keyword.{Keyword}
use Rattle.herm_alphabet.specs.declared.token.TokenKind.{TokenKind}
use Rattle.herm_alphabet.specs.declared.token.TokenKind.TheVariants.{Key, Ident, Int, Text, Sign}

-- what may stand in a name behind its first letter
abbrev pub is_name_byte : ℕ → Bool
is_name_byte b = is_ascii_alphanumeric b || b == 95

-- a letter, and then letters, digits and `_`
abbrev pub IsName : List ℕ → Type 0
IsName [] = ⊥
IsName (b ∷ bs) = IsTrue (is_ascii_alphabetic b) × AllByRecursion (λ c. IsTrue (is_name_byte c)) bs

-- what a string may contain: the printable bytes and the blank, and newlines
abbrev pub is_content : ℕ → Bool
is_content b = b == 10 || is_in_range 32 126 b

-- the limits of a name, an integer and a string
abbrev pub IsWithinLimit : TokenKind → Type 0
IsWithinLimit (Key keyword) = Unit {0}
IsWithinLimit (Ident name) = length name ≤ 64
IsWithinLimit (Int (pos n)) = n < 2 ^ 63
IsWithinLimit (Int (negsuc n)) = ⊥
IsWithinLimit (Text content) = length content ≤ 4096
IsWithinLimit (Sign mark) = Unit {0}

-- a name of letters, digits and `_` that is no keyword, a text of bytes that a string may contain
abbrev pub IsWritten : TokenKind → Type 0
IsWritten (Key keyword) = Unit {0}
IsWritten (Ident name) = IsName name × ((keyword : Keyword) → name ≢ letters keyword)
IsWritten (Int n) = Unit {0}
IsWritten (Text content) = AllByRecursion (λ b. IsTrue (is_content b)) content
IsWritten (Sign mark) = Unit {0}

-- A token of a source file can be this one.
pub record IsSourceKind (kind : TokenKind) : Type 0 where
  pub written : IsWritten kind
  pub within : IsWithinLimit kind
