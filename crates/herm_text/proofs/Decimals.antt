-- The decimal text of a number of 64 bits is its numeral.
use Rattle.std.proofs.Common.{◌≡◌, ◌<◌, ◌^◌, ℕ, sym, arith}
use Rattle.std.specs.Fmt.{decimal}
use Rattle.herm_model.specs.ValueTexts.{numeral}
use Rattle.herm_model.proofs.Numerals.{numeral-decimal}

pub numeral_is : (n : ℕ) → n < 2 ^ 64 → decimal n ≡ numeral n
numeral_is n h = sym (numeral-decimal n (omega arith))
