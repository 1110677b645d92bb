-- The test whether two numbers are equal.
use Rattle.std.proofs.Common.{◌≡◌, ◌≢◌, ℕ, true, false, nat_eq, arith}
use Rattle.std.proofs.lemmas.Bool.Decides.{nat_tests}

pub same-true : (n p : ℕ) → n ≡ p → nat_eq n p ≡ true
same-true n p e = grind (arith, nat_tests)

pub other-false : (n p : ℕ) → n ≢ p → nat_eq n p ≡ false
other-false n p e = grind (arith, nat_tests)

pub same-is : (n p : ℕ) → nat_eq n p ≡ true → n ≡ p
same-is n p h = grind (arith, nat_tests)

pub other-is : (n p : ℕ) → nat_eq n p ≡ false → n ≢ p
other-is n p h = λ e. grind (arith, nat_tests)
