-- Sets of numbers below 64: what their bits say.
use Rattle.std.proofs.Common.{◌≡◌, ◌⊎◌, inl, inr, ℕ, zero, suc, ◌+◌, ◌-◌, ◌*◌, ◌%◌, ◌^◌, ◌<◌, ◌≤◌, min, max, Bool, true, false, not, ◌&&◌, ◌||◌, ◌==◌, nat_eq, nat_lt, refl, sym, ◌∙◌, ap, arith, w64, bit_and, bit_or, true≢false}
use Rattle.std.specs.Int.{bit_at, bit_not}
use Rattle.std.proofs.lemmas.Bool.{eqb-true, eqb-false, eq-eqb, ltb-true, ltb-false, cases_eq, cases_lt}
use Rattle.std.proofs.lemmas.Nat.Bits.{bit_at-zero, bit_at-lt, bit_at_and, bit_at_or, bit_at_not, bit_at_above, bit_at_set_same, bit_at_set_other, same_from_bits_below}

-- ---- bits

bit-cases : (P : ℕ → Type 0) → P 0 → P 1 → (x : ℕ) → x < 2 → P x
bit-cases P p q zero h = p
bit-cases P p q (suc zero) h = q
bit-cases P p q (suc (suc r)) h = absurd (omega (arith, h))

two-bits : (P : ℕ → ℕ → Type 0) → P 0 0 → P 0 1 → P 1 0 → P 1 1 → (x y : ℕ) → x < 2 → y < 2 → P x y
two-bits P p q r s x y hx hy = bit-cases (λ a. P a y) (bit-cases (P 0) p q y hy) (bit-cases (P 1) r s y hy) x hx

pub none-has : (j : ℕ) → (bit_at 0 j == 1) ≡ false
none-has j = ap (λ n. n == 1) (bit_at-zero j)

pub both-has : (a b j : ℕ) → (bit_at (bit_and a b) j == 1) ≡ ((bit_at a j == 1) && (bit_at b j == 1))
both-has a b j = ap (λ n. n == 1) (bit_at_and a b j) ∙ two-bits (λ x y. (min x y == 1) ≡ ((x == 1) && (y == 1))) refl refl refl refl (bit_at a j) (bit_at b j) (bit_at-lt a j) (bit_at-lt b j)

pub either-has : (a b j : ℕ) → (bit_at (bit_or a b) j == 1) ≡ ((bit_at a j == 1) || (bit_at b j == 1))
either-has a b j = ap (λ n. n == 1) (bit_at_or a b j) ∙ two-bits (λ x y. (max x y == 1) ≡ ((x == 1) || (y == 1))) refl refl refl refl (bit_at a j) (bit_at b j) (bit_at-lt a j) (bit_at-lt b j)

pub without-has : (a b j : ℕ) → a < 2 ^ 64 → b < 2 ^ 64 → (bit_at (bit_and a (bit_not w64 b)) j == 1) ≡ ((bit_at a j == 1) && not (bit_at b j == 1))
without-has a b j in-a in-b = both-has a (bit_not w64 b) j ∙ by (cases_lt j 64)
  where
    flipped : j < 64 → (bit_at (bit_not w64 b) j == 1) ≡ not (bit_at b j == 1)
    flipped below = ap (λ n. n == 1) (bit_at_not w64 b j in-b below) ∙ bit-cases (λ x. ((1 - x) == 1) ≡ not (x == 1)) refl refl (bit_at b j) (bit_at-lt b j)

    by : (j < 64) ⊎ (64 ≤ j) → ((bit_at a j == 1) && (bit_at (bit_not w64 b) j == 1)) ≡ ((bit_at a j == 1) && not (bit_at b j == 1))
    by (inl below) = ap (λ x. (bit_at a j == 1) && x) (flipped below)
    by (inr above) =
        let none : (bit_at a j == 1) ≡ false = ap (λ n. n == 1) (bit_at_above a 64 j in-a above) in
        ap (λ x. x && (bit_at (bit_not w64 b) j == 1)) none ∙ sym (ap (λ x. x && not (bit_at b j == 1)) none)

pub one-has : (k j : ℕ) → k < 64 → (bit_at (1 * 2 ^ k % 2 ^ 64) j == 1) ≡ nat_eq j k
one-has k j within = by (cases_eq j k)
  where
    by : (j ≡ k) ⊎ (j ≡ k → ⊥) → (bit_at (1 * 2 ^ k % 2 ^ 64) j == 1) ≡ nat_eq j k
    by (inl same) =
        let set : bit_at (1 * 2 ^ k % 2 ^ 64) k ≡ 1 = omega (arith, bit_at_set_same w64 0 k within, bit_at_or 0 (1 * 2 ^ k % 2 ^ 64) k, bit_at-zero k) in
        ap (λ i. bit_at (1 * 2 ^ k % 2 ^ 64) i == 1) same ∙ ap (λ n. n == 1) set ∙ sym (eq-eqb j k same)
    by (inr apart) =
        let clear : bit_at (1 * 2 ^ k % 2 ^ 64) j ≡ 0 = omega (arith, bit_at_set_other w64 0 k within j apart, bit_at_or 0 (1 * 2 ^ k % 2 ^ 64) j, bit_at-zero j) in
        ap (λ n. n == 1) clear ∙ sym (other (nat_eq j k) refl)
      where
        other : (b : Bool) → nat_eq j k ≡ b → b ≡ false
        other true e = absurd (apart (eqb-true j k e))
        other false e = refl

pub with-has : (a k j : ℕ) → k < 64 → (bit_at (bit_or a (1 * 2 ^ k % 2 ^ 64)) j == 1) ≡ (nat_eq j k || (bit_at a j == 1))
with-has a k j within =
    either-has a (1 * 2 ^ k % 2 ^ 64) j ∙ ap (λ x. (bit_at a j == 1) || x) (one-has k j within) ∙ turned (bit_at a j == 1) (nat_eq j k)
  where
    turned : (x y : Bool) → (x || y) ≡ (y || x)
    turned true true = refl
    turned true false = refl
    turned false true = refl
    turned false false = refl

-- the numbers below a bound, and the bound
pub one-more : (j n : ℕ) → (nat_eq j n || nat_lt j n) ≡ nat_lt j (n + 1)
one-more j n = by (nat_eq j n) (nat_lt j n) (nat_lt j (n + 1)) refl refl refl
  where
    by : (a b c : Bool) → nat_eq j n ≡ a → nat_lt j n ≡ b → nat_lt j (n + 1) ≡ c → (a || b) ≡ c
    by true b true e f g = refl
    by true b false e f g = absurd (let same = eqb-true j n e in omega (arith, same, ltb-false j (n + 1) g))
    by false true true e f g = refl
    by false true false e f g = absurd (omega (arith, ltb-true j n f, ltb-false j (n + 1) g))
    by false false true e f g = absurd (eqb-false j n e (omega (arith, ltb-false j n f, ltb-true j (n + 1) g)))
    by false false false e f g = refl

-- a set without numbers below a bound, or one of them
some-below : (p : ℕ → Bool) (n : ℕ) → ((j : ℕ) → j < n → p j ≡ false) ⊎ ((j : ℕ) × (j < n) × (p j ≡ true))
some-below p zero = inl (λ j below. absurd (omega (arith, below)))
some-below p (suc n) = by (some-below p n) (p n) refl
  where
    by : ((j : ℕ) → j < n → p j ≡ false) ⊎ ((j : ℕ) × (j < n) × (p j ≡ true)) → (b : Bool) → p n ≡ b → ((j : ℕ) → j < suc n → p j ≡ false) ⊎ ((j : ℕ) × (j < suc n) × (p j ≡ true))
    by before true is = inr (n, omega arith, is)
    by (inr found) false is = inr (found.0, let below = found.1 in omega (arith, below), found.2)
    by (inl none) false is = inl (λ j below. last j below (cases_eq j n))
      where
        last : (j : ℕ) → j < suc n → (j ≡ n) ⊎ (j ≡ n → ⊥) → p j ≡ false
        last j below (inl same) = ap p same ∙ is
        last j below (inr apart) = none j (omega (arith, below, apart))

pub some-has : (a : ℕ) → a < 2 ^ 64 → (a ≡ 0 → ⊥) → (j : ℕ) × (j < 64) × ((bit_at a j == 1) ≡ true)
some-has a fits some = by (some-below (λ j. bit_at a j == 1) 64)
  where
    clear : (x : ℕ) → x < 2 → (x == 1) ≡ false → x ≡ 0
    clear zero h e = refl
    clear (suc zero) h e = absurd (true≢false e)
    clear (suc (suc r)) h e = absurd (omega (arith, h))

    by : ((j : ℕ) → j < 64 → (bit_at a j == 1) ≡ false) ⊎ ((j : ℕ) × (j < 64) × ((bit_at a j == 1) ≡ true)) → (j : ℕ) × (j < 64) × ((bit_at a j == 1) ≡ true)
    by (inr found) = found
    by (inl none) = absurd (some (same_from_bits_below 64 a 0 fits (omega arith) (λ j below. clear (bit_at a j) (bit_at-lt a j) (none j below) ∙ sym (bit_at-zero j))))
