-- The first member from a number on, word by word.
use Rattle.std.proofs.Common.{◌≡◌, ℕ, zero, suc, ◌+◌, ◌-◌, ◌*◌, ◌/◌, ◌%◌, ◌^◌, ◌<◌, ◌≤◌, List, length, get_or, Some, None, Bool, true, false, inl, inr, refl, sym, ap, ap₂, subst, ◌∙◌, arith, true≢false, bit_and, w64, nat_eq, min}
use Rattle.std.specs.Int.{bit_at, trailing_zeros}
use Rattle.std.proofs.lemmas.Bool.{cases_lt}
use Rattle.std.proofs.lemmas.Bool.Decides.{nat_tests}
use Rattle.std.proofs.lemmas.Nat.{and_le_r}
use Rattle.std.proofs.lemmas.Nat.Bits.{bit_at-zero, bit_at-lt, bit_at_and, bit_at-trailing_zeros, bit_at_mask_inside, bit_at_mask_below, ones_shl}
use Rattle.herm_waking.specs.Numbers.{has, next_from}
use Rattle.herm_ready.specs.Words.{is_member, members}
use Rattle.herm_ready.proofs.Members.{has-members, next-first, next-absent}

-- no number from n on and below m is a member
abbrev pub NoneBetween : List ℕ → ℕ → ℕ → Type 0
NoneBetween ms n m = (r : ℕ) → n ≤ r → r < m → has r ms ≡ false

-- a word in which the bits below k are cleared
abbrev pub rest_of : ℕ → ℕ → ℕ
rest_of w k = bit_and w (18446744073709551615 * 2 ^ k % 18446744073709551616)

module _ (w k i : ℕ) (few : k < 64) where
  mask : 18446744073709551615 * 2 ^ k % 18446744073709551616 ≡ 2 ^ 64 - 2 ^ k
  mask = ones_shl 64 k (omega (arith, few))

  pub below : i < k → bit_at (rest_of w k) i ≡ 0
  below lt = let m = bit_at_and w (18446744073709551615 * 2 ^ k % 18446744073709551616) i in let z = ap (λ m. bit_at m i) mask ∙ bit_at_mask_below k 64 i lt in m ∙ ap (min (bit_at w i)) z ∙ least (bit_at w i)
    where
      least : (a : ℕ) → min a 0 ≡ 0
      least a = omega arith

  pub above : k ≤ i → i < 64 → bit_at (rest_of w k) i ≡ bit_at w i
  above le lt = let m = bit_at_and w (18446744073709551615 * 2 ^ k % 18446744073709551616) i in let z = ap (λ m. bit_at m i) mask ∙ bit_at_mask_inside k 64 i le lt in m ∙ ap (min (bit_at w i)) z ∙ least (bit_at w i) (bit_at-lt w i)
    where
      least : (a : ℕ) → a < 2 → min a 1 ≡ a
      least a lt = omega (arith, lt)

-- the number of a bit
at : (i b : ℕ) → b < 64 → ((i * 64 + b) / 64 ≡ i) × ((i * 64 + b) % 64 ≡ b)
at i b lt = (omega (arith, lt), omega (arith, lt))

bit-there : (words : List ℕ) (i b : ℕ) → b < 64 → is_member words (i * 64 + b) ≡ nat_eq (bit_at (get_or words i 0) b) 1
bit-there words i b lt = ap₂ (λ j c. nat_eq (bit_at (get_or words j 0) c) 1) (at i b lt).0 (at i b lt).1

pub bit-of : (words : List ℕ) (r i : ℕ) → r / 64 ≡ i → bit_at (get_or words i 0) (r % 64) ≡ 0 → is_member words r ≡ false
bit-of words r i e z = ap (λ j. nat_eq (bit_at (get_or words j 0) (r % 64)) 1) e ∙ ap (λ b. nat_eq b 1) z

module _ (words : List ℕ) (n : ℕ) where
  abbrev rest : ℕ
  rest = rest_of (get_or words (n / 64) 0) (n % 64)

  pub none-here : rest ≡ 0 → NoneBetween (members words) n (64 * suc (n / 64))
  none-here e r le lt = has-members words r ∙ bit-of words r (n / 64) (omega (arith, le, lt)) (sym (above (get_or words (n / 64) 0) (n % 64) (r % 64) (omega arith) (omega (arith, le, lt)) (omega arith)) ∙ ap (λ w. bit_at w (r % 64)) e ∙ bit_at-zero (r % 64))

  pub found-here : 0 < rest → rest < 2 ^ 64 → next_from n (members words) ≡ Some (n / 64 * 64 + trailing_zeros w64 rest)
  found-here some fits =
      let lowest = bit_at-trailing_zeros w64 rest some fits in
      let least : n % 64 ≤ trailing_zeros w64 rest =
      elim (cases_lt (trailing_zeros w64 rest) (n % 64)) [
        | inl lt ↦ absurd (omega (arith, below (get_or words (n / 64) 0) (n % 64) (trailing_zeros w64 rest) (omega arith) lt, lowest.1))
        | inr le ↦ le
      ]
      in
      next-first words n (n / 64 * 64 + trailing_zeros w64 rest) (omega (arith, least))
      (bit-there words (n / 64) (trailing_zeros w64 rest) lowest.0 ∙ ap (λ b. nat_eq b 1) (sym (above (get_or words (n / 64) 0) (n % 64) (trailing_zeros w64 rest) (omega arith) least lowest.0) ∙ lowest.1))
      (λ r le lt. bit-of words r (n / 64) (omega (arith, le, lt, lowest.0)) (sym (above (get_or words (n / 64) 0) (n % 64) (r % 64) (omega arith) (omega (arith, le, lt, lowest.0)) (omega arith)) ∙ lowest.2 (r % 64) (omega (arith, le, lt, lowest.0))))

  pub none-later : (i : ℕ) → get_or words i 0 ≡ 0 → NoneBetween (members words) n (64 * i) → NoneBetween (members words) n (64 * suc i)
  none-later i e none r le lt =
      elim (cases_lt r (64 * i)) [
        | inl before ↦ none r le before
        | inr here ↦ has-members words r ∙ bit-of words r i (omega (arith, here, lt)) (ap (λ w. bit_at w (r % 64)) e ∙ bit_at-zero (r % 64))
      ]

  pub found-later : (i : ℕ) → n < 64 * i → 0 < get_or words i 0 → get_or words i 0 < 2 ^ 64 → NoneBetween (members words) n (64 * i) → next_from n (members words) ≡ Some (i * 64 + trailing_zeros w64 (get_or words i 0))
  found-later i later some fits none =
      let lowest = bit_at-trailing_zeros w64 (get_or words i 0) some fits in
      next-first words n (i * 64 + trailing_zeros w64 (get_or words i 0)) (omega (arith, later))
      (bit-there words i (trailing_zeros w64 (get_or words i 0)) lowest.0 ∙ ap (λ b. nat_eq b 1) lowest.1)
      (λ r le lt.
      elim (cases_lt r (64 * i)) [
        | inl before ↦ sym (has-members words r) ∙ none r le before
        | inr here ↦ bit-of words r i (omega (arith, here, lt, lowest.0)) (lowest.2 (r % 64) (omega (arith, here, lt, lowest.0)))
      ])

  pub none-at-all : (i : ℕ) → length words ≤ i → NoneBetween (members words) n (64 * i) → next_from n (members words) ≡ None
  none-at-all i le none = next-absent words n (λ r from lt. sym (has-members words r) ∙ none r from (omega (arith, le, lt)))

-- the same of the words that were read
module _ (words : List ℕ) (n : ℕ) where
  pub found-rest : (w : ℕ) → w ≡ get_or words (n / 64) 0 → 0 < rest_of w (n % 64) → next_from n (members words) ≡ Some (n / 64 * 64 + trailing_zeros w64 (rest_of w (n % 64)))
  found-rest w e some = subst (λ w. 0 < rest_of w (n % 64) → next_from n (members words) ≡ Some (n / 64 * 64 + trailing_zeros w64 (rest_of w (n % 64)))) (sym e) (λ some. found-here words n some (within (get_or words (n / 64) 0) (n % 64))) some
    where
      within : (w k : ℕ) → rest_of w k < 2 ^ 64
      within w k = omega (arith, and_le_r w (18446744073709551615 * 2 ^ k % 18446744073709551616))

  pub none-rest : (w : ℕ) → w ≡ get_or words (n / 64) 0 → rest_of w (n % 64) ≡ 0 → NoneBetween (members words) n (64 * suc (n / 64))
  none-rest w e z = none-here words n (sym (ap (λ w. rest_of w (n % 64)) e) ∙ z)

  pub found-word : (i w : ℕ) → w ≡ get_or words i 0 → n < 64 * i → 0 < w → w < 2 ^ 64 → NoneBetween (members words) n (64 * i) → next_from n (members words) ≡ Some (i * 64 + trailing_zeros w64 w)
  found-word i w e later some fits none = found-later words n i later (subst (λ w. 0 < w) e some) (subst (λ w. w < 2 ^ 64) e fits) none ∙ ap (λ w. Some (i * 64 + trailing_zeros w64 w)) (sym e)

  pub none-word : (i w : ℕ) → w ≡ get_or words i 0 → w ≡ 0 → NoneBetween (members words) n (64 * i) → NoneBetween (members words) n (64 * suc i)
  none-word i w e z none = none-later words n i (sym e ∙ z) none
