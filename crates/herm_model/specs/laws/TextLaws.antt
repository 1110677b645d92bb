-- What is proved of the text of a value.
use Rattle.std.specs.Prelude.{◌≡◌, ℕ, ◌<◌, ◌^◌, List, ◌++◌, ℤ, IsTrue, IsFalse}
use Rattle.std.specs.Fmt.{decimal, signed_decimal}
use Rattle.herm_model.specs.Types.{TypeTable}
use Rattle.herm_model.specs.Values.{Value}
use Rattle.herm_model.specs.Typed.{Degree, IsOf, is_integer}
use Rattle.herm_model.specs.ValueTexts.{text_of, numeral, signed_numeral, begins_with_digit}

-- Two values of one type, with more behind each of their texts that does not begin with a digit: where the whole is
-- the same, the values and what follows are. So it is for values of which parts may be missing, and for full ones.
abbrev pub TellsValues : Type 0
TellsValues = (d : Degree) (table : TypeTable) (t : ℕ) (a b : Value) (r s : List ℕ) → IsOf d table t a → IsOf d table t b → IsFalse (begins_with_digit r) → IsFalse (begins_with_digit s) →
    text_of a ++ r ≡ text_of b ++ s → (a ≡ b) × (r ≡ s)

-- the digits of a number are those that std writes, where that has room for them
abbrev pub WritesDecimals : Type 0
WritesDecimals = (n : ℕ) → n < 10 ^ 64 → numeral n ≡ decimal n

abbrev pub WritesIntegers : Type 0
WritesIntegers = (z : ℤ) → IsTrue (is_integer z) → signed_numeral z ≡ signed_decimal z
