-- What a text of at most 7 digits is read as.
use Rattle.std.proofs.Common.{◌≡◌, ◌<◌, ◌≤◌, ◌^◌, ◌&&◌, ℕ, List, [], ◌∷◌, length, true, false, Bool, refl, sym, ap, subst, ◌∙◌, arith}
use Rattle.std.specs.Prelude.{Result, Ok, Option, Some, MatchOption, nat_le}
use Rattle.std.specs.Result.{result_ok}
use Rattle.std.specs.List.{list_all}
use Rattle.std.specs.Char.{is_ascii_digit}
use Rattle.std.specs.Str.{all_ascii_digits}
use Rattle.std.specs.Str.Parse.{ParsesUnsigned, digits_value}
use Rattle.herm_commands.specs.Words.{is_number}
use Rattle.std.proofs.lemmas.Str.Parse.{IsNumeralModel, numerals_by_value, tells_all_ascii_digits, parse_gives, digits_value_short}

own : IsNumeralModel (λ ds. all_ascii_digits ds ≡ true) (digits_value 10)
own = numerals_by_value (λ ds. all_ascii_digits ds ≡ true) tells_all_ascii_digits

all_digits : (bs : List ℕ) → list_all is_ascii_digit bs ≡ all_ascii_digits bs
all_digits [] = refl
all_digits (c ∷ cs) = ap (λ (b : Bool). is_ascii_digit c && b) (all_digits cs)

-- the parse gives the number that the digits write
pub number_read : {E : Type 0} (bs : List ℕ) (r : Result ℕ E) → ParsesUnsigned 32 10 bs r → 1 ≤ length bs → length bs ≤ 7
    → list_all is_ascii_digit bs ≡ true → r ≡ Ok (digits_value 10 bs)
number_read bs r parses some few digits =
    let are : all_ascii_digits bs ≡ true = sym (all_digits bs) ∙ digits in
    let short : digits_value 10 bs < 10 ^ 7 = digits_value_short own bs 7 are few in
    parse_gives own 32 bs r parses are (omega (arith, some)) (omega (arith, short))

both : (a b : Bool) → (a && b) ≡ true → (a ≡ true) × (b ≡ true)
both true b e = (refl, e)
both false b e = absurd cc

some_read : (bs : List ℕ) (o : Option ℕ) → o ≡ Some (digits_value 10 bs) → is_number bs ≡ true
    → MatchOption o (is_number bs ≡ false) (λ n. (is_number bs ≡ true) × (n ≡ digits_value 10 bs))
some_read bs o e is = subst (λ (o : Option ℕ). MatchOption o (is_number bs ≡ false)
    (λ n. (is_number bs ≡ true) × (n ≡ digits_value 10 bs))) (sym e) (is, refl)

-- a text of 1 to 7 digits is read as what they write
pub number_given : {E : Type 0} (bs : List ℕ) (r : Result ℕ E) (o : Option ℕ) → ParsesUnsigned 32 10 bs r
    → is_number bs ≡ true → o ≡ result_ok r
    → MatchOption o (is_number bs ≡ false) (λ n. (is_number bs ≡ true) × (n ≡ digits_value 10 bs))
number_given bs r o parses is e =
    let some = both (nat_le 1 (length bs)) (nat_le (length bs) 7 && list_all is_ascii_digit bs) is in
    let few = both (nat_le (length bs) 7) (list_all is_ascii_digit bs) some.1 in
    let read = number_read bs r parses (grind (arith, some.0)) (grind (arith, few.0)) few.1 in
    some_read bs o (e ∙ ap result_ok read) is
