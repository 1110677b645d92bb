-- The letters of keywords and signs (Language reference, "Tokens").
use Rattle.std.specs.Prelude.{ℕ, Bool, List, [], ◌∷◌, codes, Option, bytes_eq, filter, nat_eq, slice_index}
use denote.Enum.Bare.{sameb}
use Rattle.std.specs.List.{find}
use Rattle.herm_alphabet.specs.declared.keyword.Keyword.{Keyword}
use Rattle.herm_alphabet.specs.declared.keyword.Keyword.TheVariants.{KwAnd, KwAs, KwCall, KwCallmessage, KwCase, KwConnect, KwCreate, KwDefinitions, KwDiscard, KwDissolve, KwDiv, KwElse, KwEnum, KwException, KwFalse, KwFor, KwFrom, KwFull, KwGet, KwIf, KwIn, KwInit, KwInout, KwInport, KwInsert, KwInto, KwKey, KwLeave, KwLength, KwMod, KwMove, KwNew, KwNot, KwOf, KwOn, KwOr, KwOut, KwOutport, KwProcess, KwRaise, KwRaises, KwReceive, KwRecord, KwRemove, KwReturn, KwReveal, KwSelect, KwSend, KwSize, KwTable, KwText, KwTo, KwTrue, KwTry, KwType, KwUnite, KwUnwrap, KwVar, KwVariant, KwWhen, KwWhile, KwWrap}
use Rattle.herm_alphabet.specs.contracts.keyword.Keyword.{the_type as the_keyword}
use Rattle.herm_alphabet.specs.contracts.sign.Mark.{the_type as the_mark}
use Rattle.herm_alphabet.specs.declared.sign.Mark.{Mark}
use Rattle.herm_alphabet.specs.declared.sign.Mark.TheVariants.{ParenOpen, ParenClose, BraceOpen, BraceClose, BracketOpen, BracketClose, Comma, Semicolon, Colon, Becomes, Dot, Hash, Equal, NotEqual, Less, LessEqual, Greater, GreaterEqual, Plus, Minus, Star, Ampersand}

-- all keywords, in alphabetical order
abbrev pub keywords : List Keyword
keywords = KwAnd ∷ KwAs ∷ KwCall ∷ KwCallmessage ∷ KwCase ∷ KwConnect ∷ KwCreate ∷ KwDefinitions ∷ KwDiscard ∷ KwDissolve ∷ KwDiv ∷ KwElse ∷ KwEnum ∷ KwException ∷ KwFalse ∷ KwFor ∷ KwFrom ∷ KwFull ∷ KwGet ∷ KwIf ∷ KwIn ∷ KwInit ∷ KwInout ∷ KwInport ∷ KwInsert ∷ KwInto ∷ KwKey ∷ KwLeave ∷ KwLength ∷ KwMod ∷ KwMove ∷ KwNew ∷ KwNot ∷ KwOf ∷ KwOn ∷ KwOr ∷ KwOut ∷ KwOutport ∷ KwProcess ∷ KwRaise ∷ KwRaises ∷ KwReceive ∷ KwRecord ∷ KwRemove ∷ KwReturn ∷ KwReveal ∷ KwSelect ∷ KwSend ∷ KwSize ∷ KwTable ∷ KwText ∷ KwTo ∷ KwTrue ∷ KwTry ∷ KwType ∷ KwUnite ∷ KwUnwrap ∷ KwVar ∷ KwVariant ∷ KwWhen ∷ KwWhile ∷ KwWrap ∷ []

-- the letters of a keyword
abbrev pub letters : Keyword → List ℕ
letters KwAnd = codes "and"
letters KwAs = codes "as"
letters KwCall = codes "call"
letters KwCallmessage = codes "callmessage"
letters KwCase = codes "case"
letters KwConnect = codes "connect"
letters KwCreate = codes "create"
letters KwDefinitions = codes "definitions"
letters KwDiscard = codes "discard"
letters KwDissolve = codes "dissolve"
letters KwDiv = codes "div"
letters KwElse = codes "else"
letters KwEnum = codes "enum"
letters KwException = codes "exception"
letters KwFalse = codes "false"
letters KwFor = codes "for"
letters KwFrom = codes "from"
letters KwFull = codes "full"
letters KwGet = codes "get"
letters KwIf = codes "if"
letters KwIn = codes "in"
letters KwInit = codes "init"
letters KwInout = codes "inout"
letters KwInport = codes "inport"
letters KwInsert = codes "insert"
letters KwInto = codes "into"
letters KwKey = codes "key"
letters KwLeave = codes "leave"
letters KwLength = codes "length"
letters KwMod = codes "mod"
letters KwMove = codes "move"
letters KwNew = codes "new"
letters KwNot = codes "not"
letters KwOf = codes "of"
letters KwOn = codes "on"
letters KwOr = codes "or"
letters KwOut = codes "out"
letters KwOutport = codes "outport"
letters KwProcess = codes "process"
letters KwRaise = codes "raise"
letters KwRaises = codes "raises"
letters KwReceive = codes "receive"
letters KwRecord = codes "record"
letters KwRemove = codes "remove"
letters KwReturn = codes "return"
letters KwReveal = codes "reveal"
letters KwSelect = codes "select"
letters KwSend = codes "send"
letters KwSize = codes "size"
letters KwTable = codes "table"
letters KwText = codes "text"
letters KwTo = codes "to"
letters KwTrue = codes "true"
letters KwTry = codes "try"
letters KwType = codes "type"
letters KwUnite = codes "unite"
letters KwUnwrap = codes "unwrap"
letters KwVar = codes "var"
letters KwVariant = codes "variant"
letters KwWhen = codes "when"
letters KwWhile = codes "while"
letters KwWrap = codes "wrap"

-- the characters of a sign
abbrev pub characters : Mark → List ℕ
characters ParenOpen = codes "("
characters ParenClose = codes ")"
characters BraceOpen = codes "{"
characters BraceClose = codes "}"
characters BracketOpen = codes "["
characters BracketClose = codes "]"
characters Comma = codes ","
characters Semicolon = codes ";"
characters Colon = codes ":"
characters Becomes = codes ":="
characters Dot = codes "."
characters Hash = codes "#"
characters Equal = codes "="
characters NotEqual = codes "<>"
characters Less = codes "<"
characters LessEqual = codes "<="
characters Greater = codes ">"
characters GreaterEqual = codes ">="
characters Plus = codes "+"
characters Minus = codes "-"
characters Star = codes "*"
characters Ampersand = codes "&"

-- the first of some keywords with these letters
abbrev pub found_among : List Keyword → List ℕ → Option Keyword
found_among some text = find (λ k. bytes_eq (letters k) text) some

-- the keyword with these letters
unfoldable pub keyword_of : List ℕ → Option Keyword
keyword_of text = found_among keywords text

-- the keywords that begin with a letter, in alphabetical order
unfoldable pub starting_with : ℕ → List Keyword
starting_with first = filter (λ k. nat_eq (slice_index (letters k) 0) first) keywords

-- whether two keywords are one, and whether two signs are
abbrev pub same_keyword : Keyword → Keyword → Bool
same_keyword = sameb the_keyword

abbrev pub same_mark : Mark → Mark → Bool
same_mark = sameb the_mark
