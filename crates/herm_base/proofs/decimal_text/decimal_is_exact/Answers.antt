use Rattle.std.proofs.Common.{◌≡◌, ℕ, zero, suc, ◌<◌, ◌^◌, List, length, get_or, decimal, sym, ap, ◌∙◌, subst, arith}
use Rattle.std.specs.Str.Parse.{AllDigits, digits_value}
use Rattle.std.proofs.lemmas.Str.Parse.{IsNumeralModel, numerals_by_value, tells_digits}
use Rattle.std.proofs.lemmas.Fmt.{decimal-digits_value, decimal_is_IsNumeral, decimal_digit, first_decimal}
use Rattle.herm_base.specs.Decimal.{IsDecimalText}
use Rattle.herm_base.proofs.decimal_text.decimal_is_exact.Goals as goal

own : IsNumeralModel (AllDigits 10) (digits_value 10)
own = numerals_by_value (AllDigits 10) tells_digits

-- a decimal text is what `decimal` gives
text_is : (n : ℕ) (text : List ℕ) → n < 2 ^ 64 → IsDecimalText n text → text ≡ decimal n
text_is n text small d =
    let bound : digits_value 10 text < 2 ^ 64 = subst (λ (m : ℕ). m < 2 ^ 64) (sym d.value) small in
    sym (decimal-digits_value own text d.digits.1 d.digits.0 d.no_leading_zero bound) ∙ ap decimal d.value

-- the text of 0 is one digit, and any other begins with another digit
no_zero : (n : ℕ) → n < 2 ^ 64 → get_or (decimal n) 0 0 ≡ 48 → length (decimal n) ≡ 1
no_zero zero small h = ap length (decimal_digit 0 (omega arith))
no_zero (suc n) small h = absurd (omega (arith, first_decimal (suc n) (omega arith) small, h))

is_text : (n : ℕ) → n < 2 ^ 64 → IsDecimalText n (decimal n)
is_text n small =
    let numeral = decimal_is_IsNumeral n small in
    record { digits = numeral.0; value = numeral.1; no_leading_zero = no_zero n small }

pub returns : goal.returns
returns c n text small =
    (text_is n text small, λ e. subst (IsDecimalText n) (sym e) (is_text n small))
