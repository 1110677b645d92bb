-- The decimal text of a number (Language reference, "Decimal text").
use Rattle.std.specs.Prelude.{◌≡◌, ℕ, ◌<◌, ◌^◌, ◌↔◌, List, length, slice_index, decimal}
use Rattle.std.specs.Str.Parse.{IsNumeral, digits_value}

-- one digit or more, which write the number, and no 0 before another digit
pub record IsDecimalText (n : ℕ) (text : List ℕ) : Type 0 where
  pub digits : IsNumeral 10 text
  pub value : digits_value 10 text ≡ n
  pub no_leading_zero : slice_index text 0 ≡ 48 → length text ≡ 1

-- each number of 64 bits has one decimal text
abbrev pub DecimalIsExact : Type 0
DecimalIsExact = (n : ℕ) (text : List ℕ) → n < 2 ^ 64 → (IsDecimalText n text ↔ (text ≡ decimal n))
