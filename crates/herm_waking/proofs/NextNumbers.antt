-- The first number from one on, and what is in a list with a number put in or taken out.
use Rattle.std.proofs.Common.{◌≡◌, ◌⊎◌, inl, inr, ℕ, ◌<◌, ◌≤◌, List, [], ◌∷◌, Bool, true, false, cond, ◌||◌, Some, None, refl, sym, ap, ◌∙◌, arith, true≢false}
use Rattle.std.specs.Prelude.{nat_eq, nat_lt}
use Rattle.std.proofs.lemmas.Bool.{eqb-true}
use Rattle.std.proofs.lemmas.Bool.Decides.{nat_tests}
use Rattle.herm_model.proofs.Lists.{or-either}
use Rattle.herm_model.proofs.Options.{some-injective, none-not_some}
use Rattle.herm_journal.proofs.Rising.{same-true}
use Rattle.herm_waking.specs.Numbers.{has, AreAbove, inserted, removed, next_from}
use Rattle.herm_waking.specs.laws.NumberLaws.{InsertedIsThere, RemovedIsGone, NextIsFirst, NoneIsNext}
use Rattle.herm_waking.proofs.RisingNumbers.{inserted-own, inserted-other, removed-own, removed-other, rising-inserted, rising-removed, above-absent, above-rising}

pub inserted-there : InsertedIsThere
inserted-there q ps rising = (rising-inserted q ps rising, λ r. by r (nat_eq r q) refl)
  where
    by : (r : ℕ) (b : Bool) → nat_eq r q ≡ b → has r (inserted q ps) ≡ (b || has r ps)
    by r true e = ap (λ r. has r (inserted q ps)) (eqb-true r q e) ∙ inserted-own q ps
    by r false e = inserted-other r q ps e

pub removed-gone : RemovedIsGone
removed-gone q ps rising = (rising-removed q ps rising, λ r. by r (nat_eq r q) refl)
  where
    by : (r : ℕ) (b : Bool) → nat_eq r q ≡ b → has r (removed q ps) ≡ cond b false (has r ps)
    by r true e = ap (λ r. has r (removed q ps)) (eqb-true r q e) ∙ removed-own q ps
    by r false e = removed-other r q ps e

below : (x p : ℕ) → nat_lt x p ≡ true → x < p
below x p e = grind (arith, nat_tests)

not-below : (x p : ℕ) → nat_lt x p ≡ false → p ≤ x
not-below x p e = grind (arith, nat_tests)

-- what is in a list above a number is above it
above-has : (x r : ℕ) (ps : List ℕ) → AreAbove x ps → has r ps ≡ true → x < r
above-has x r ps above e = by (nat_lt x r) refl
  where
    by : (b : Bool) → nat_lt x r ≡ b → x < r
    by true f = below x r f
    by false f = absurd (true≢false (sym e ∙ above-absent x r ps above (not-below x r f)))

member : (r x : ℕ) (ps : List ℕ) → has r (x ∷ ps) ≡ true → (r ≡ x) ⊎ (has r ps ≡ true)
member r x ps e = by (or-either (nat_eq r x) (has r ps) e)
  where
    by : (nat_eq r x ≡ true) ⊎ (has r ps ≡ true) → (r ≡ x) ⊎ (has r ps ≡ true)
    by (inl same) = inl (eqb-true r x same)
    by (inr h) = inr h

later : (r x : ℕ) (ps : List ℕ) → has r ps ≡ true → has r (x ∷ ps) ≡ true
later r x ps e = ap (λ b. nat_eq r x || b) e ∙ or-true (nat_eq r x)
  where
    or-true : (b : Bool) → (b || true) ≡ true
    or-true true = refl
    or-true false = refl

abbrev IsFirst : ℕ → ℕ → List ℕ → Type 0
IsFirst p q ps = (has q ps ≡ true) × (p ≤ q) × ((r : ℕ) → has r ps ≡ true → p ≤ r → q ≤ r)

pub next-first : NextIsFirst
next-first p q [] rising e = none-not_some e
next-first p q (x ∷ ps) rising e = by (nat_lt x p) refl e (λ e. next-first p q ps (above-rising x ps rising) e)
  where
    own : x ≡ q → p ≤ x → IsFirst p q (x ∷ ps)
    own same least = (ap (λ b. b || has q ps) (ap (nat_eq q) same ∙ same-true q), omega (arith, least, same), λ r h le. among r (member r x ps h))
      where
        among : (r : ℕ) → (r ≡ x) ⊎ (has r ps ≡ true) → q ≤ r
        among r (inl e) = omega (arith, e, same)
        among r (inr h) = omega (arith, above-has x r ps rising h, same)

    behind : x < p → IsFirst p q ps → IsFirst p q (x ∷ ps)
    behind less first = (later q x ps first.0, first.1, λ r h le. among r le (member r x ps h))
      where
        among : (r : ℕ) → p ≤ r → (r ≡ x) ⊎ (has r ps ≡ true) → q ≤ r
        among r le (inl e) = absurd (omega (arith, e, less, le))
        among r le (inr h) = first.2 r h le

    by : (b : Bool) → nat_lt x p ≡ b → cond b (next_from p ps) (Some x) ≡ Some q → (next_from p ps ≡ Some q → IsFirst p q ps) → IsFirst p q (x ∷ ps)
    by true f e again = behind (below x p f) (again e)
    by false f e again = own (some-injective e) (not-below x p f)

pub none-next : NoneIsNext
none-next p [] e r h = absurd (true≢false (sym h))
none-next p (x ∷ ps) e r h = by (nat_lt x p) refl e (λ e h. none-next p ps e r h)
  where
    by : (b : Bool) → nat_lt x p ≡ b → cond b (next_from p ps) (Some x) ≡ None → (next_from p ps ≡ None → has r ps ≡ true → r < p) → r < p
    by false f e again = none-not_some (sym e)
    by true f e again = among (member r x ps h)
      where
        among : (r ≡ x) ⊎ (has r ps ≡ true) → r < p
        among (inl same) = omega (arith, below x p f, same)
        among (inr h) = again e h
