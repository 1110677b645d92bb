-- How many brackets may be open at once, and where one is open too many. Language reference, "Open brackets".
use Rattle.std.specs.Prelude.{ℕ, ◌≡◌, List}
use Rattle.herm_alphabet.specs.declared.token.Token.{Token}
use Rattle.herm_readers.specs.BracketBalance.{IsTooDeep}
use Rattle.herm_syntax.specs.Symbols.{side}
use Rattle.herm_parser.specs.Gives.{kinds}
use Rattle.herm_parser.specs.TokenPlaces.{place_of}

-- The most brackets that may be open at once (Language reference, "Open brackets").
unfoldable pub most_brackets : ℕ
most_brackets = 64

-- A bracket is open too many, and that is the first, at this place (Language reference, "Open brackets").
pub record IsNested (tokens : List Token) (offset : ℕ) : Type 0 where
  pub left : ℕ
  pub deep : IsTooDeep side most_brackets (kinds tokens) left
  pub place : offset ≡ place_of tokens left
