-- The members of a table of words, their tests, and how they change with one bit.
use Rattle.std.proofs.Common.{◌≡◌, ◌≢◌, ℕ, zero, suc, ◌+◌, ◌*◌, ◌/◌, ◌%◌, ◌^◌, ◌<◌, ◌≤◌, List, [], ◌∷◌, length, filter, get_or, set, Option, Some, None, Bool, true, false, cond, ◌||◌, inl, inr, refl, sym, ap, subst, ◌∙◌, arith, true≢false, bit_and, bit_or, w64, length-set, get_or-set_same, get_or-set_other, replicate, nat_eq, nat_lt}
use Rattle.std.specs.Int.{bit_at, bit_not, trailing_zeros}
use Rattle.std.proofs.lemmas.Bool.{cases_eq, cases_lt, eqb-true}
use Rattle.std.proofs.lemmas.Bool.Decides.{nat_tests}
use Rattle.std.proofs.lemmas.Nat.Bits.{bit_at-zero, bit_at-trailing_zeros, bit_at_set_same, bit_at_set_other, bit_at_clear_same, bit_at_clear_other}
use Rattle.herm_model.specs.Lists.{range}
use Rattle.herm_journal.proofs.Rising.{same-true}
use Rattle.herm_runs.proofs.order.Commuting.{unequal-numbers}
use Rattle.herm_waking.specs.Numbers.{has, AreRising, inserted, removed, next_from}
use Rattle.herm_waking.proofs.RisingNumbers.{inserted-own, inserted-other, removed-own, removed-other, rising-inserted, rising-removed, rising-filter, same-members, next-passed, next-own, next-none}
use Rattle.herm_ready.specs.Words.{is_member, members}

-- the numbers of a range that pass a test
failed-absent : (test : ℕ → Bool) (q i n : ℕ) → test q ≡ false → has q (filter test (range i n)) ≡ false
failed-absent test q i zero e = refl
failed-absent test q i (suc n) e = by (test i) refl (failed-absent test q (suc i) n e)
  where
    differs : (b : Bool) → nat_eq q i ≡ b → test i ≡ true → b ≡ false
    differs true same f = absurd (true≢false (sym f ∙ sym (ap test (eqb-true q i same)) ∙ e))
    differs false same f = refl

    by : (b : Bool) → test i ≡ b → has q (filter test (range (suc i) n)) ≡ false → has q (cond b (i ∷ filter test (range (suc i) n)) (filter test (range (suc i) n))) ≡ false
    by true f h = ap (λ b. b || has q (filter test (range (suc i) n))) (differs (nat_eq q i) refl f) ∙ h
    by false f h = h

passed-there : (test : ℕ → Bool) (q i n : ℕ) → test q ≡ true → i ≤ q → q < i + n → has q (filter test (range i n)) ≡ true
passed-there test q i zero e le lt = absurd (omega (arith, le, lt))
passed-there test q i (suc n) e le lt = by (nat_eq q i) (test i) refl refl (λ d. passed-there test q (suc i) n e (above d) (omega (arith, lt)))
  where
    above : nat_eq q i ≡ false → suc i ≤ q
    above d = grind (arith, nat_tests)

    or-true : (b : Bool) → (b || true) ≡ true
    or-true true = refl
    or-true false = refl

    by : (s b : Bool) → nat_eq q i ≡ s → test i ≡ b → (nat_eq q i ≡ false → has q (filter test (range (suc i) n)) ≡ true) → has q (cond b (i ∷ filter test (range (suc i) n)) (filter test (range (suc i) n))) ≡ true
    by true true d f h = ap (λ b. b || has q (filter test (range (suc i) n))) d
    by true false d f h = absurd (true≢false (sym e ∙ ap test (eqb-true q i d) ∙ f))
    by false true d f h = ap (λ b. nat_eq q i || b) (h d) ∙ or-true (nat_eq q i)
    by false false d f h = h d

pub outside : (words : List ℕ) (q : ℕ) → length words ≤ q / 64 → is_member words q ≡ false
outside words q le = ap (λ w. nat_eq (bit_at w (q % 64)) 1) (past words (q / 64) le) ∙ ap (λ b. nat_eq b 1) (bit_at-zero (q % 64))
  where
    past : (ws : List ℕ) (i : ℕ) → length ws ≤ i → get_or ws i 0 ≡ 0
    past [] i le = refl
    past (w ∷ ws) zero le = absurd (omega (arith, le))
    past (w ∷ ws) (suc i) le = past ws i (omega (arith, le))

pub has-members : (words : List ℕ) (q : ℕ) → has q (members words) ≡ is_member words q
has-members words q = by (is_member words q) refl
  where
    by : (b : Bool) → is_member words q ≡ b → has q (members words) ≡ b
    by true e =
        elim (cases_lt q (64 * length words)) [
          | inl lt ↦ passed-there (is_member words) q 0 (64 * length words) e (omega arith) (omega (arith, lt))
          | inr le ↦ absurd (true≢false (sym e ∙ outside words q (omega (arith, le))))
        ]
    by false e = failed-absent (is_member words) q 0 (64 * length words) e

pub rising-members : (words : List ℕ) → AreRising (members words)
rising-members words = rising-filter (is_member words) 0 (64 * length words)

-- one word is another, of which one bit is
module _ (words : List ℕ) (n word : ℕ) (within : n / 64 < length words) where
  own-bit : is_member (set words (n / 64) word) n ≡ nat_eq (bit_at word (n % 64)) 1
  own-bit = ap (λ w. nat_eq (bit_at w (n % 64)) 1) (get_or-set_same words (n / 64) word 0 within)

  other-bit : ((i : ℕ) → i < 64 → i ≢ n % 64 → bit_at word i ≡ bit_at (get_or words (n / 64) 0) i) → (q : ℕ) → q ≢ n → is_member (set words (n / 64) word) q ≡ is_member words q
  other-bit kept q differs =
      elim (cases_eq (q / 64) (n / 64)) [
        | inl same ↦ ap (λ w. nat_eq w 1) (rw (same, get_or-set_same words (n / 64) word 0 within) (kept (q % 64) (omega arith) (λ index. differs (omega arith))))
        | inr apart ↦ ap (λ w. nat_eq (bit_at w (q % 64)) 1) (get_or-set_other words (n / 64) (q / 64) word 0 apart)
      ]

  changed : (next : List ℕ) → AreRising next → nat_eq (bit_at word (n % 64)) 1 ≡ has n next → ((i : ℕ) → i < 64 → i ≢ n % 64 → bit_at word i ≡ bit_at (get_or words (n / 64) 0) i)
      → ((q : ℕ) → nat_eq q n ≡ false → has q next ≡ has q (members words)) → members (set words (n / 64) word) ≡ next
  changed next rising own kept others = same-members (members (set words (n / 64) word)) next (rising-members (set words (n / 64) word)) rising (λ q. has-members (set words (n / 64) word) q ∙ by q (nat_eq q n) refl)
    where
      by : (q : ℕ) (b : Bool) → nat_eq q n ≡ b → is_member (set words (n / 64) word) q ≡ has q next
      by q true e = subst (λ q. is_member (set words (n / 64) word) q ≡ has q next) (sym (eqb-true q n e)) (own-bit ∙ own)
      by q false e = other-bit kept q (λ same. true≢false (sym (ap (λ q. nat_eq q n) same ∙ same-true n) ∙ e)) ∙ sym (others q e ∙ has-members words q)

-- what is read at a place is the word there
pub word-at : (ws : List ℕ) (i w : ℕ) → i < length ws → w ≡ get_or ws i w → w ≡ get_or ws i 0
word-at [] i w lt e = absurd (omega (arith, lt))
word-at (x ∷ ws) zero w lt e = e
word-at (x ∷ ws) (suc i) w lt e = word-at ws i w (omega (arith, lt)) e

pub members-inserted : (words : List ℕ) (n w : ℕ) → n / 64 < length words → w ≡ get_or words (n / 64) w → members (set words (n / 64) (bit_or w (1 * 2 ^ (n % 64) % 2 ^ 64))) ≡ inserted n (members words)
members-inserted words n w within e =
    subst (λ w. members (set words (n / 64) (bit_or w (1 * 2 ^ (n % 64) % 2 ^ 64))) ≡ inserted n (members words)) (sym (word-at words (n / 64) w within e))
    (changed words n _ within (inserted n (members words)) (rising-inserted n (members words) (rising-members words))
    (ap (λ b. nat_eq b 1) (bit_at_set_same w64 (get_or words (n / 64) 0) (n % 64) (omega arith)) ∙ sym (inserted-own n (members words)))
    (λ i below differs. bit_at_set_other w64 (get_or words (n / 64) 0) (n % 64) (omega arith) i differs)
    (λ q e. inserted-other q n (members words) e))

pub members-removed : (words : List ℕ) (n w : ℕ) → n / 64 < length words → w ≡ get_or words (n / 64) w → members (set words (n / 64) (bit_and w (bit_not w64 (1 * 2 ^ (n % 64) % 2 ^ 64)))) ≡ removed n (members words)
members-removed words n w within e =
    subst (λ w. members (set words (n / 64) (bit_and w (bit_not w64 (1 * 2 ^ (n % 64) % 2 ^ 64)))) ≡ removed n (members words)) (sym (word-at words (n / 64) w within e))
    (changed words n _ within (removed n (members words)) (rising-removed n (members words) (rising-members words))
    (ap (λ b. nat_eq b 1) (bit_at_clear_same w64 (get_or words (n / 64) 0) (n % 64) (omega arith)) ∙ sym (removed-own n (members words)))
    (λ i below differs. bit_at_clear_other w64 (get_or words (n / 64) 0) (n % 64) (omega arith) i below differs)
    (λ q e. removed-other q n (members words) e))

pub members-outside : (words : List ℕ) (n : ℕ) → length words ≤ n / 64 → members words ≡ removed n (members words)
members-outside words n le = same-members (members words) (removed n (members words)) (rising-members words) (rising-removed n (members words) (rising-members words)) (λ q. by q (nat_eq q n) refl)
  where
    by : (q : ℕ) (b : Bool) → nat_eq q n ≡ b → has q (members words) ≡ has q (removed n (members words))
    by q true e = subst (λ q. has q (members words) ≡ has q (removed n (members words))) (sym (eqb-true q n e)) (has-members words n ∙ outside words n le ∙ sym (removed-own n (members words)))
    by q false e = sym (removed-other q n (members words) e)

-- the first member from a number on
next-found : (words : List ℕ) (n q d : ℕ) → q ≡ n + d → is_member words q ≡ true → ((r : ℕ) → n ≤ r → r < q → is_member words r ≡ false) → next_from n (members words) ≡ Some q
next-found words n q zero at e none = ap (λ n. next_from n (members words)) (omega (arith, at)) ∙ next-own q (members words) (rising-members words) (has-members words q ∙ e)
next-found words n q (suc d) at e none =
    next-passed n (members words) (has-members words n ∙ none n (omega arith) (omega (arith, at)))
    ∙ next-found words (suc n) q d (omega (arith, at)) e (λ r le lt. none r (omega (arith, le)) lt)

pub next-first : (words : List ℕ) (n q : ℕ) → n ≤ q → is_member words q ≡ true → ((r : ℕ) → n ≤ r → r < q → is_member words r ≡ false) → next_from n (members words) ≡ Some q
next-first words n q le e none = by (cases_sum n q le)
  where
    cases_sum : (n q : ℕ) → n ≤ q → (d : ℕ) × (q ≡ n + d)
    cases_sum zero q le = (q, omega arith)
    cases_sum (suc n) zero le = absurd (omega (arith, le))
    cases_sum (suc n) (suc q) le = let h = cases_sum n q (omega (arith, le)) in (h.0, omega (arith, h.1))

    by : (d : ℕ) × (q ≡ n + d) → next_from n (members words) ≡ Some q
    by h = next-found words n q h.0 h.1 e none

pub next-absent : (words : List ℕ) (n : ℕ) → ((r : ℕ) → n ≤ r → r < 64 * length words → is_member words r ≡ false) → next_from n (members words) ≡ None
next-absent words n none = next-none n (members words) (λ q h. by q (sym (has-members words q) ∙ h))
  where
    from : (q : ℕ) → is_member words q ≡ true → n ≤ q → q < n
    from q e le =
        elim (cases_lt q (64 * length words)) [
          | inl lt ↦ absurd (true≢false (sym e ∙ none q le lt))
          | inr out ↦ absurd (true≢false (sym e ∙ outside words q (omega (arith, out))))
        ]

    by : (q : ℕ) → is_member words q ≡ true → q < n
    by q e = elim (cases_lt q n) [ inl lt ↦ lt | inr le ↦ from q e le ]

-- no member is the first from 0 on just where there are none
pub none-first : (ms : List ℕ) → next_from 0 ms ≡ None → ms ≡ []
none-first [] e = refl
none-first (x ∷ xs) e = grind (arith, nat_tests)

pub zeros : (n i : ℕ) → get_or (replicate n zero) i zero ≡ zero
zeros zero i = refl
zeros (suc n) zero = refl
zeros (suc n) (suc i) = zeros n i

-- words that are all 0 have no members
pub no-members : (words : List ℕ) → ((i : ℕ) → get_or words i 0 ≡ 0) → members words ≡ []
no-members words zeros = same-members (members words) [] (rising-members words) tt (λ q. has-members words q ∙ ap (λ w. nat_eq (bit_at w (q % 64)) 1) (zeros (q / 64)) ∙ ap (λ b. nat_eq b 1) (bit_at-zero (q % 64)))
