-- Numbers of 64 bits and those that the model takes for them.
use Rattle.std.proofs.Common.{◌≡◌, ◌<◌, ◌^◌, ◌%◌, ℕ, zero, suc, ℤ, pos, negsuc, false, IsTrue, Option, Some, None, refl, sym, ap, ◌∙◌, arith}
use Rattle.std.proofs.lemmas.Bool.{lt-ltb, le-ltb, ne_eqb}
use Rattle.std.specs.Prelude.{FitsSigned, SomeIff, cond, int_div, int_rem, neg_ℤ}
use Rattle.std.specs.Int.{w64, IsNonZero, CanDivide}
use Rattle.herm_model.specs.Outcomes.{overflow}
use Rattle.herm_model.specs.Values.{an_integer}
use Rattle.herm_model.specs.Tables.{same_integer}
use Rattle.herm_model.specs.Typed.{is_integer}
use Rattle.herm_forms.specs.Evaluate.{raises, gives_scalar, within_bits, by_divisor}
use Rattle.herm_stack.specs.Answers.{checked}

fits : (z : ℤ) → FitsSigned w64 z → IsTrue (is_integer z)
fits (pos n) h = lt-ltb n (2 ^ 63) (omega (arith, h))
fits (negsuc n) h = lt-ltb n (2 ^ 63) (omega (arith, h))

beyond : (z : ℤ) → (FitsSigned w64 z → ⊥) → is_integer z ≡ false
beyond (pos n) h = let k : n < 2 ^ 63 → ⊥ = λ l. h (record { sfits = l }) in le-ltb n (2 ^ 63) (omega arith)
beyond (negsuc n) h = let k : n < 2 ^ 63 → ⊥ = λ l. h (record { sfits = l }) in le-ltb n (2 ^ 63) (omega arith)

-- a checked result is the number, or Overflow where it is outside the 64 bits
pub checked_fits : (r : Option ℤ) (z : ℤ) → SomeIff r (FitsSigned w64 z) z → checked r ≡ within_bits z
checked_fits None z h = ap (λ b. cond b (gives_scalar (an_integer z)) (raises overflow)) (sym (beyond z h))
checked_fits (Some x) z h = ap (λ x. gives_scalar (an_integer x)) h.1 ∙ ap (λ b. cond b (gives_scalar (an_integer z)) (raises overflow)) (sym (fits z h.0))

pub within_fits : (z : ℤ) → FitsSigned w64 z → gives_scalar (an_integer z) ≡ within_bits z
within_fits z h = ap (λ b. cond b (gives_scalar (an_integer z)) (raises overflow)) (sym (fits z h))

-- a divisor of 0, and any other
pub by_zero : (f : ℤ → ℤ → ℤ) (y z : ℤ) → z ≡ pos 0 → raises overflow ≡ by_divisor f y z
by_zero f y z is = ap (λ z. by_divisor f y z) (sym is)

no_zero : (z : ℤ) → (z ≡ pos 0 → ⊥) → same_integer z (pos 0) ≡ false
no_zero (pos n) other = ne_eqb n 0 (λ e. other (ap pos e))
no_zero (negsuc n) other = refl

pub by_other : (f : ℤ → ℤ → ℤ) (y z : ℤ) → (z ≡ pos 0 → ⊥) → within_bits (f y z) ≡ by_divisor f y z
by_other f y z other = ap (λ b. cond b (raises overflow) (within_bits (f y z))) (sym (no_zero z other))

nonzero : (z : ℤ) → FitsSigned w64 z → (z ≡ pos 0 → ⊥) → IsNonZero w64 z
nonzero (pos zero) h other = absurd (other refl)
nonzero (pos (suc n)) h other = omega arith
nonzero (negsuc n) h other = omega (arith, h)

some_if : (r : Option ℤ) (P Q : Type 0) (v : ℤ) → P → SomeIff r (P × Q) v → SomeIff r Q v
some_if None P Q v p h = λ q. h (p, q)
some_if (Some x) P Q v p h = (h.0.1, h.1)

pub divided_fits : (r : Option ℤ) (y z : ℤ) → FitsSigned w64 z → (z ≡ pos 0 → ⊥) → SomeIff r (CanDivide w64 y z) (int_div y z) → checked r ≡ by_divisor int_div y z
divided_fits r y z h other divides =
    checked_fits r (int_div y z) (some_if r (IsNonZero w64 z) (FitsSigned w64 (int_div y z)) (int_div y z) (nonzero z h other) divides)
    ∙ by_other int_div y z other

mod_one : (n : ℕ) → n % 1 ≡ 0
mod_one n = omega arith

-- by -1 nothing is left over
pub left_over : (y : ℤ) → int_rem y (negsuc 0) ≡ pos 0
left_over (pos n) = ap pos (mod_one n)
left_over (negsuc n) = ap (λ k. neg_ℤ (pos k)) (mod_one (suc n))

pub ruleset divisions = (by_zero, by_other, divided_fits, left_over)
