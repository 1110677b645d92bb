-- The decimal text of a number of 64 bits is a string.
use Rattle.std.proofs.Common.{◌≡◌, ◌≤◌, ℕ, zero, suc, ◌+◌, ◌/◌, ◌%◌, ◌^◌, List, [], ◌∷◌, length, Bool, true, false, cond, ℤ, pos, negsuc, nat_eq, nat_le, ◌&&◌, IsTrue, refl, arith}
use Rattle.std.proofs.lemmas.Bool.{le-leb, leb-true, ltb-true}
use Rattle.std.specs.Fmt.{digit_glyph, digits_onto}
use Rattle.herm_model.specs.Lists.{all_pass}
use Rattle.herm_model.specs.Typed.{is_integer, is_text, is_text_byte, greatest_text}
use Rattle.herm_model.specs.ValueTexts.{digit_bound, numeral, signed_numeral, is_digit}
use Rattle.herm_model.proofs.Lists.{and-both, both-and, or-left}
use Rattle.herm_model.proofs.Numerals.{AreDigits, numeral-digits}

-- there are at most so many digits as the bound says
digits-bounded : (k n : ℕ) (acc : List ℕ) → length (digits_onto k 10 false n acc) ≤ k + length acc
digits-bounded zero n acc = omega arith
digits-bounded (suc k) n acc = by (nat_eq (n / 10) 0) (digits-bounded k (n / 10) (digit_glyph false (n % 10) ∷ acc))
  where
    by : (b : Bool) → length (digits_onto k 10 false (n / 10) (digit_glyph false (n % 10) ∷ acc)) ≤ k + length (digit_glyph false (n % 10) ∷ acc) → length (cond b (digit_glyph false (n % 10) ∷ acc) (digits_onto k 10 false (n / 10) (digit_glyph false (n % 10) ∷ acc))) ≤ suc k + length acc
    by true again = let z : length (digit_glyph false (n % 10) ∷ acc) ≡ suc (length acc) = refl in omega (arith, z)
    by false again = let z : length (digit_glyph false (n % 10) ∷ acc) ≡ suc (length acc) = refl in omega (arith, z, again)

numeral-short : (n : ℕ) → n ≤ 2 ^ 63 → length (numeral n) ≤ 64
numeral-short n h = omega (arith, digits-bounded (digit_bound n) n [])

digit-is_byte : (b : ℕ) → IsTrue (is_digit b) → IsTrue (is_text_byte b)
digit-is_byte b h =
    let d = and-both (nat_le 48 b) (nat_le b 57) h in
    let low : 48 ≤ b = leb-true 48 b d.0 in
    let high : b ≤ 57 = leb-true b 57 d.1 in
    or-left (nat_le 32 b && nat_le b 126) (nat_eq b 10) (both-and (nat_le 32 b) (nat_le b 126) (le-leb 32 b (omega (arith, low))) (le-leb b 126 (omega (arith, high))))

digits-are_bytes : (bytes : List ℕ) → AreDigits bytes → IsTrue (all_pass is_text_byte bytes)
digits-are_bytes [] h = refl
digits-are_bytes (b ∷ bytes) h = both-and (is_text_byte b) (all_pass is_text_byte bytes) (digit-is_byte b h.0) (digits-are_bytes bytes h.1)

pub signed-text : (z : ℤ) → IsTrue (is_integer z) → IsTrue (is_text (signed_numeral z))
signed-text (pos n) h =
    both-and (nat_le (length (numeral n)) greatest_text) (all_pass is_text_byte (numeral n)) (le-leb (length (numeral n)) greatest_text (omega (arith, numeral-short n (omega (arith, ltb-true n (2 ^ 63) h))))) (digits-are_bytes (numeral n) (numeral-digits n))
signed-text (negsuc n) h =
    both-and (nat_le (suc (length (numeral (suc n)))) greatest_text) (all_pass is_text_byte (45 ∷ numeral (suc n))) (le-leb (suc (length (numeral (suc n)))) greatest_text (omega (arith, numeral-short (suc n) (omega (arith, ltb-true n (2 ^ 63) h)))))
    (digits-are_bytes (numeral (suc n)) (numeral-digits (suc n)))
