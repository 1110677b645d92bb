-- What a reading function returns, seen as what a plain reader of symbols gives.
use Rattle.std.specs.Prelude.{◌≡◌, List, ◌++◌, map, Result, Ok, Err}
use Rattle.herm_alphabet.specs.declared.token.Token.{Token}
use Rattle.herm_readers.specs.Reader.{Answer, Read, Fault}
use Rattle.herm_readers.specs.Combinators.{onward}
use Rattle.herm_syntax.specs.Symbols.{Symbol}
use Rattle.herm_parser.specs.declared.stop.Stop.{Stop}
use Rattle.herm_parser.specs.declared.stop.Stop.TheVariants.{Syntax, Memory}

-- Tokens without their places are the symbols of the grammar.
abbrev pub kinds : List Token → List Symbol
kinds tokens = map (λ t. t.kind) tokens

-- It stops where the plain reader has a fault, unless memory runs out.
abbrev pub Fails : {A : Type 0} → Stop → Answer Symbol A → Type 0
Fails (Syntax left) answer = answer ≡ Fault left
Fails Memory answer = Unit {0}

-- It gives what the plain reader does: a value whose view is the tree, and the tokens left.
abbrev pub Gives : {X A : Type 0} → (X → A) → (X → List Token) → Result X Stop → Answer Symbol A → Type 0
Gives view left (Ok x) answer = answer ≡ Read (view x) (kinds (left x))
Gives view left (Err stop) answer = Fails stop answer

-- What was found before stands in front of the list that is read.
abbrev pub with_front : {A : Type 0} → List A → Answer Symbol (List A) → Answer Symbol (List A)
with_front front answer = onward answer (λ found rest. Read (front ++ found) rest)
