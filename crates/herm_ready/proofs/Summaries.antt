-- The summary of the words: how it changes with one word, and the first word from a place on that is not 0.
use Rattle.std.proofs.Common.{◌≡◌, ◌≢◌, ℕ, zero, suc, ◌+◌, ◌*◌, ◌/◌, ◌%◌, ◌^◌, ◌<◌, ◌≤◌, List, [], ◌∷◌, length, get_or, set, Some, None, Bool, true, false, inl, inr, refl, sym, ap, subst, ◌∙◌, arith, true≢false, bit_and, bit_or, w64, get_or-set_same, get_or-set_other, replicate, nat_eq, nat_lt}
use Rattle.std.specs.Int.{bit_at, bit_not, trailing_zeros}
use Rattle.std.proofs.lemmas.Bool.{cases_eq, cases_lt}
use Rattle.std.proofs.lemmas.Bool.Decides.{nat_tests}
use Rattle.std.proofs.lemmas.Nat.{and_le_l, and_le_r}
use Rattle.std.proofs.lemmas.Nat.Bits.{bit_at-zero, bit_at-lt, bit_at-trailing_zeros, bit_at_set_same, bit_at_set_other, bit_at_clear_same, bit_at_clear_other}
use Rattle.herm_waking.specs.Numbers.{has, next_from}
use Rattle.herm_ready.specs.Words.{is_member, members, IsSummary}
use Rattle.herm_ready.proofs.Members.{has-members, word-at, zeros}
use Rattle.herm_ready.proofs.NextMembers.{NoneBetween, rest_of, below, above, bit-of, found-word, none-at-all}

-- what one bit of a summary says of its word
module _ (filled : ℕ) (words : List ℕ) (summed : IsSummary filled words) (i : ℕ) (few : i < 64) where
  pub word-none : bit_at filled i ≡ 0 → get_or words i 0 ≡ 0
  word-none e = grind (arith, nat_tests, summed i few, e)

  pub word-some : bit_at filled i ≡ 1 → 0 < get_or words i 0
  word-some e = grind (arith, nat_tests, summed i few, e)

tests-none : (b w : ℕ) → b ≡ 0 → w ≡ 0 → nat_eq b 1 ≡ nat_lt 0 w
tests-none b w e f = grind (arith, nat_tests, e, f)

tests-some : (b w : ℕ) → b ≡ 1 → 0 < w → nat_eq b 1 ≡ nat_lt 0 w
tests-some b w e f = grind (arith, nat_tests, e, f)

pub none-summed : (n : ℕ) → IsSummary 0 (replicate n zero)
none-summed n i few = tests-none (bit_at 0 i) (get_or (replicate n zero) i 0) (bit_at-zero i) (zeros n i)

-- a word of which a bit is 1 is not 0
some-bit : (w k : ℕ) → bit_at w k ≡ 1 → 0 < w
some-bit zero k e = absurd (omega (arith, e, bit_at-zero k))
some-bit (suc w) k e = omega arith

-- one word is another, and its bit in the summary is right
changed : (filled next : ℕ) (words : List ℕ) (k word : ℕ) → k < length words → IsSummary filled words → nat_eq (bit_at next k) 1 ≡ nat_lt 0 word → ((i : ℕ) → i < 64 → i ≢ k → bit_at next i ≡ bit_at filled i) → IsSummary next (set words k word)
changed filled next words k word within summed own others i few =
    elim (cases_eq i k) [
      | inl same ↦ subst (λ i. nat_eq (bit_at next i) 1 ≡ nat_lt 0 (get_or (set words k word) i 0)) (sym same) (own ∙ ap (nat_lt 0) (sym (get_or-set_same words k word 0 within)))
      | inr apart ↦ ap (λ b. nat_eq b 1) (others i few apart) ∙ summed i few ∙ ap (nat_lt 0) (sym (get_or-set_other words k i word 0 apart))
    ]

pub summed-inserted : (filled : ℕ) (words : List ℕ) (n w : ℕ) → n / 64 < length words → n / 64 < 64 → IsSummary filled words
    → IsSummary (bit_or filled (1 * 2 ^ (n / 64) % 2 ^ 64)) (set words (n / 64) (bit_or w (1 * 2 ^ (n % 64) % 2 ^ 64)))
summed-inserted filled words n w within few summed =
    changed filled _ words (n / 64) _ within summed
    (tests-some _ _ (bit_at_set_same w64 filled (n / 64) few) (some-bit _ (n % 64) (bit_at_set_same w64 w (n % 64) (omega arith))))
    (λ i lt apart. bit_at_set_other w64 filled (n / 64) few i apart)

pub summed-emptied : (filled : ℕ) (words : List ℕ) (k word : ℕ) → k < length words → k < 64 → word ≡ 0 → IsSummary filled words → IsSummary (bit_and filled (bit_not w64 (1 * 2 ^ k % 2 ^ 64))) (set words k word)
summed-emptied filled words k word within few empty summed =
    changed filled _ words k word within summed (tests-none _ _ (bit_at_clear_same w64 filled k few) empty) (λ i lt apart. bit_at_clear_other w64 filled k few i lt apart)

pub summed-kept : (filled : ℕ) (words : List ℕ) (k w m : ℕ) → k < length words → k < 64 → w ≡ get_or words k 0 → bit_and w m ≢ 0 → IsSummary filled words → IsSummary filled (set words k (bit_and w m))
summed-kept filled words k w m within few e some summed =
    changed filled filled words k (bit_and w m) within summed (summed k few ∙ both (get_or words k 0) (bit_and w m) (subst (λ w. 0 < w) e (omega (arith, and_le_l w m, some))) (omega (arith, some))) (λ i lt apart. refl)
  where
    both : (a b : ℕ) → 0 < a → 0 < b → nat_lt 0 a ≡ nat_lt 0 b
    both a b e f = grind (arith, nat_tests, e, f)

-- the words behind that of a number
module _ (filled : ℕ) (words : List ℕ) (n : ℕ) (summed : IsSummary filled words) (few : length words ≤ 63) (within : n / 64 < length words) (none : NoneBetween (members words) n (64 * suc (n / 64))) where
  none-up-to : (i : ℕ) → ((j : ℕ) → n / 64 < j → j < i → get_or words j 0 ≡ 0) → NoneBetween (members words) n (64 * i)
  none-up-to i empty r le lt =
      elim (cases_lt r (64 * suc (n / 64))) [
        | inl here ↦ none r le here
        | inr later ↦ has-members words r ∙ bit-of words r (r / 64) refl (ap (λ w. bit_at w (r % 64)) (empty (r / 64) (omega (arith, later)) (omega (arith, lt))) ∙ bit_at-zero (r % 64))
      ]

  abbrev later_of : ℕ
  later_of = rest_of filled (n / 64 + 1)

  bit-later : (i : ℕ) → n / 64 < i → i < 64 → bit_at later_of i ≡ bit_at filled i
  bit-later i gt lt = above filled (n / 64 + 1) i (omega (arith, few, within)) (omega (arith, gt)) lt

  pub none-later-on : later_of ≡ 0 → next_from n (members words) ≡ None
  none-later-on e =
      none-at-all words n (length words) (omega arith)
      (none-up-to (length words) (λ j gt lt. word-none filled words summed j (omega (arith, few, lt)) (sym (bit-later j gt (omega (arith, few, lt))) ∙ ap (λ w. bit_at w j) e ∙ bit_at-zero j)))

  module _ (some : later_of ≢ 0) where
    fits : later_of < 2 ^ 64
    fits = omega (arith, and_le_r filled (18446744073709551615 * 2 ^ (n / 64 + 1) % 18446744073709551616))

    abbrev first : ℕ
    first = trailing_zeros w64 later_of

    lowest : (first < 64) × (bit_at later_of first ≡ 1) × ((i : ℕ) → i < first → bit_at later_of i ≡ 0)
    lowest = bit_at-trailing_zeros w64 later_of (omega (arith, some)) fits

    behind : n / 64 < first
    behind =
        elim (cases_lt first (n / 64 + 1)) [
          | inl lt ↦ absurd (omega (arith, below filled (n / 64 + 1) first (omega (arith, few, within)) lt, lowest.1))
          | inr le ↦ omega (arith, le)
        ]

    filled-there : 0 < get_or words first 0
    filled-there = word-some filled words summed first lowest.0 (sym (bit-later first behind lowest.0) ∙ lowest.1)

    -- there is a word at the place that the summary tells
    pub first-there : first < length words
    first-there = there words first filled-there
      where
        there : (ws : List ℕ) (i : ℕ) → 0 < get_or ws i 0 → i < length ws
        there [] i lt = absurd (omega (arith, lt))
        there (w ∷ ws) zero lt = omega arith
        there (w ∷ ws) (suc i) lt = omega (arith, there ws i lt)

    pub found-later-on : (w : ℕ) → w ≡ get_or words first 0 → w < 2 ^ 64 → next_from n (members words) ≡ Some (first * 64 + trailing_zeros w64 w)
    found-later-on w e most =
        found-word words n first w e (omega (arith, behind)) (subst (λ w. 0 < w) (sym e) filled-there) most
        (none-up-to first (λ j gt lt. word-none filled words summed j (omega (arith, lt, lowest.0)) (sym (bit-later j gt (omega (arith, lt, lowest.0))) ∙ lowest.2 j lt)))
