-- How the classes of bytes lie to one another.
use Rattle.std.proofs.Common.{◌≡◌, ℕ, Bool, true, false, nat_eq, refl, sym, ap, ◌∙◌, arith}
use Rattle.std.proofs.lemmas.Bool.Decides.{nat_tests}
use Rattle.std.specs.Char.{is_ascii_alphabetic, is_ascii_digit}
use Rattle.herm_lexer.specs.Bytes.{is_blank, is_allowed, is_line_byte, is_name_byte}

pub letter_no_blank : (b : ℕ) → is_ascii_alphabetic b ≡ true → is_blank b ≡ false
letter_no_blank b h = grind (arith, nat_tests)

pub letter_name_byte : (b : ℕ) → is_ascii_alphabetic b ≡ true → is_name_byte b ≡ true
letter_name_byte b h = grind (arith, nat_tests)

pub digit_no_blank : (b : ℕ) → is_ascii_digit b ≡ true → is_blank b ≡ false
digit_no_blank b h = grind (arith, nat_tests)

pub digit_no_letter : (b : ℕ) → is_ascii_digit b ≡ true → is_ascii_alphabetic b ≡ false
digit_no_letter b h = grind (arith, nat_tests)

pub digit_name_byte : (b : ℕ) → is_ascii_digit b ≡ true → is_name_byte b ≡ true
digit_name_byte b h = grind (arith, nat_tests)

pub no_name_byte_no_digit : (b : ℕ) → is_name_byte b ≡ false → is_ascii_digit b ≡ false
no_name_byte_no_digit b h = grind (arith, nat_tests)

-- ---- a byte outside the allowed ones is in none of the classes

pub stray_no_blank : (b : ℕ) → is_allowed b ≡ false → is_blank b ≡ false
stray_no_blank b h = grind (arith, nat_tests)

pub stray_no_letter : (b : ℕ) → is_allowed b ≡ false → is_ascii_alphabetic b ≡ false
stray_no_letter b h = grind (arith, nat_tests)

pub stray_no_digit : (b : ℕ) → is_allowed b ≡ false → is_ascii_digit b ≡ false
stray_no_digit b h = grind (arith, nat_tests)

pub stray_no_line_byte : (b : ℕ) → is_allowed b ≡ false → is_line_byte b ≡ false
stray_no_line_byte b h = grind (arith, nat_tests)

-- and is no allowed byte
pub stray_not : (b c : ℕ) → is_allowed b ≡ false → is_allowed c ≡ true → nat_eq b c ≡ false
stray_not b c h allowed =
    let choose : (v : Bool) → nat_eq b c ≡ v → nat_eq b c ≡ false =
    λ v. elim v as (λ v. nat_eq b c ≡ v → nat_eq b c ≡ false) [
      | true ↦ λ e. let same : b ≡ c = grind (arith, nat_tests) in absurd (let clash : true ≡ false = sym allowed ∙ ap is_allowed (sym same) ∙ h in cc)
      | false ↦ λ e. e
    ]
    in
    choose (nat_eq b c) refl
