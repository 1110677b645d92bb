-- The decimal texts of numbers of 64 bits are their numerals.
use Rattle.std.proofs.Common.{◌≡◌, ◌<◌, ◌^◌, ℕ, ℤ, pos, negsuc, IsTrue, sym, arith}
use Rattle.std.proofs.lemmas.Bool.{lt-ltb}
use Rattle.std.specs.Prelude.{FitsSigned}
use Rattle.std.specs.Int.{w64}
use Rattle.std.specs.Fmt.{decimal, signed_decimal}
use Rattle.herm_model.specs.Typed.{is_integer}
use Rattle.herm_model.specs.ValueTexts.{numeral, signed_numeral}
use Rattle.herm_model.proofs.Numerals.{numeral-decimal, signed-decimal}

pub numeral_is : (n : ℕ) → n < 2 ^ 64 → decimal n ≡ numeral n
numeral_is n h = sym (numeral-decimal n (omega arith))

fits : (z : ℤ) → FitsSigned w64 z → IsTrue (is_integer z)
fits (pos n) h = lt-ltb n (2 ^ 63) (omega (arith, h))
fits (negsuc n) h = lt-ltb n (2 ^ 63) (omega (arith, h))

pub signed_is : (z : ℤ) → FitsSigned w64 z → signed_decimal z ≡ signed_numeral z
signed_is z h = sym (signed-decimal z (fits z h))
