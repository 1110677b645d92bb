-- The symbols of the grammar: tokens without their places in the text. They are the kinds of tokens that the
-- lexer reads: keywords, names, integers, quoted texts by their content, and signs (language reference, "Tokens").
use Rattle.std.specs.Prelude.{ℕ, Bool, false, List, is_some, nat_eq}
use Rattle.herm_readers.specs.BracketBalance.{Side, Opening, Closing, Neither}
use Rattle.herm_alphabet.specs.KeywordLetters.{keyword_of, same_keyword, same_mark}
use Rattle.herm_alphabet.specs.declared.keyword.Keyword.{Keyword}
use Rattle.herm_alphabet.specs.declared.keyword.Keyword.TheVariants.{KwAnd, KwDiv, KwMod, KwOr}
use Rattle.herm_alphabet.specs.declared.sign.Mark.{Mark}
use Rattle.herm_alphabet.specs.declared.sign.Mark.TheVariants.{ParenOpen, ParenClose, BraceOpen, BraceClose, BracketOpen, BracketClose, Comma, Semicolon, Colon, Becomes, Dot, Hash, Equal, NotEqual, Less, LessEqual, Greater, GreaterEqual, Plus, Minus, Star, Ampersand}
use Rattle.herm_alphabet.specs.declared.token.TokenKind.{TokenKind}
pub use Rattle.herm_alphabet.specs.declared.token.TokenKind.TheVariants.{Key, Sign, Ident as Identifier, Int as Number, Text as Quoted}

abbrev pub Symbol : Type 0
Symbol = TokenKind

-- (
abbrev pub paren_open : Symbol
paren_open = Sign ParenOpen

-- )
abbrev pub paren_close : Symbol
paren_close = Sign ParenClose

-- {
abbrev pub brace_open : Symbol
brace_open = Sign BraceOpen

-- }
abbrev pub brace_close : Symbol
brace_close = Sign BraceClose

-- [
abbrev pub bracket_open : Symbol
bracket_open = Sign BracketOpen

-- ]
abbrev pub bracket_close : Symbol
bracket_close = Sign BracketClose

-- ,
abbrev pub comma : Symbol
comma = Sign Comma

-- ;
abbrev pub semicolon : Symbol
semicolon = Sign Semicolon

-- :
abbrev pub colon : Symbol
colon = Sign Colon

-- :=
abbrev pub becomes : Symbol
becomes = Sign Becomes

-- .
abbrev pub dot : Symbol
dot = Sign Dot

-- #
abbrev pub hash : Symbol
hash = Sign Hash

-- =
abbrev pub equal : Symbol
equal = Sign Equal

-- <>
abbrev pub unequal : Symbol
unequal = Sign NotEqual

-- <
abbrev pub less : Symbol
less = Sign Less

-- <=
abbrev pub at_most : Symbol
at_most = Sign LessEqual

-- >
abbrev pub greater : Symbol
greater = Sign Greater

-- >=
abbrev pub at_least : Symbol
at_least = Sign GreaterEqual

-- +
abbrev pub plus : Symbol
plus = Sign Plus

-- -
abbrev pub minus : Symbol
minus = Sign Minus

-- *
abbrev pub star : Symbol
star = Sign Star

-- &
abbrev pub ampersand : Symbol
ampersand = Sign Ampersand

-- Whether letters are a keyword's.
abbrev pub is_keyword : List ℕ → Bool
is_keyword letters = is_some (keyword_of letters)

-- Whether a symbol is this keyword or sign.
abbrev pub is : Symbol → Symbol → Bool
is (Key k) (Key other) = same_keyword other k
is (Sign m) (Sign other) = same_mark other m
is x y = false

-- The level at which a symbol goes on behind an expression: 0 for what goes on behind a name, 1 for the
-- operators of products, 2 of sums, 3 of comparisons, 4 and 5 for `and` and `or`, and 6 for every other symbol.
abbrev pub keyword_level : Keyword → ℕ
keyword_level KwDiv = 1
keyword_level KwMod = 1
keyword_level KwAnd = 4
keyword_level KwOr = 5
keyword_level _ = 6

abbrev pub sign_level : Mark → ℕ
sign_level Dot = 0
sign_level Hash = 0
sign_level Star = 1
sign_level Plus = 2
sign_level Minus = 2
sign_level Ampersand = 2
sign_level Equal = 3
sign_level NotEqual = 3
sign_level Less = 3
sign_level LessEqual = 3
sign_level Greater = 3
sign_level GreaterEqual = 3
sign_level _ = 6

abbrev pub level : Symbol → ℕ
level (Key k) = keyword_level k
level (Sign m) = sign_level m
level x = 6

-- Whether a symbol is an operator of a level.
abbrev pub is_operator : ℕ → Symbol → Bool
is_operator n x = nat_eq (level x) n

-- Which signs open and close a bracket.
abbrev pub bracket_side : Mark → Side
bracket_side ParenOpen = Opening
bracket_side ParenClose = Closing
bracket_side BraceOpen = Opening
bracket_side BraceClose = Closing
bracket_side BracketOpen = Opening
bracket_side BracketClose = Closing
bracket_side _ = Neither

abbrev pub side : Symbol → Side
side (Key k) = Neither
side (Sign m) = bracket_side m
side (Identifier letters) = Neither
side (Number n) = Neither
side (Quoted letters) = Neither
