-- Rising lists of numbers are known by their members.
use Rattle.std.proofs.Common.{◌≡◌, ℕ, zero, suc, ◌+◌, ◌<◌, ◌≤◌, List, [], ◌∷◌, filter, Bool, true, false, cond, ◌||◌, Some, None, refl, sym, ap, ◌∙◌, arith, true≢false}
use Rattle.std.specs.Prelude.{nat_eq, nat_lt}
use Rattle.std.proofs.lemmas.Bool.{eqb-true}
use Rattle.std.proofs.lemmas.Bool.Decides.{nat_tests}
use Rattle.herm_model.specs.Lists.{range}
use Rattle.herm_journal.proofs.Rising.{same-true}
use Rattle.herm_runs.proofs.order.Commuting.{unequal-numbers}
use Rattle.herm_waking.specs.Numbers.{has, AreAbove, AreRising, inserted, removed, next_from}

pub not-same : (r q : ℕ) → nat_eq r q ≡ false → r ≡ q → ⊥
not-same r q e same = true≢false (sym (ap (λ r. nat_eq r q) same ∙ same-true q) ∙ e)

-- put in, a number is there, and the others are as before
pub inserted-own : (q : ℕ) (ps : List ℕ) → has q (inserted q ps) ≡ true
inserted-own q [] = ap (λ b. b || false) (same-true q)
inserted-own q (p ∷ ps) = by (nat_lt q p) (nat_eq q p) refl (inserted-own q ps)
  where
    or-true : (b : Bool) → (b || true) ≡ true
    or-true true = refl
    or-true false = refl

    by : (a b : Bool) → nat_eq q p ≡ b → has q (inserted q ps) ≡ true → has q (cond a (q ∷ p ∷ ps) (cond b (p ∷ ps) (p ∷ inserted q ps))) ≡ true
    by true b e h = ap (λ b. b || has q (p ∷ ps)) (same-true q)
    by false true e h = ap (λ b. b || has q ps) e
    by false false e h = ap (λ b. nat_eq q p || b) h ∙ or-true (nat_eq q p)

pub inserted-other : (r q : ℕ) (ps : List ℕ) → nat_eq r q ≡ false → has r (inserted q ps) ≡ has r ps
inserted-other r q [] d = ap (λ b. b || false) d
inserted-other r q (p ∷ ps) d = by (nat_lt q p) (nat_eq q p) (inserted-other r q ps d)
  where
    by : (a b : Bool) → has r (inserted q ps) ≡ has r ps → has r (cond a (q ∷ p ∷ ps) (cond b (p ∷ ps) (p ∷ inserted q ps))) ≡ has r (p ∷ ps)
    by true b h = ap (λ b. b || has r (p ∷ ps)) d
    by false true h = refl
    by false false h = ap (λ b. nat_eq r p || b) h

-- taken out, it is not there
pub removed-own : (q : ℕ) (ps : List ℕ) → has q (removed q ps) ≡ false
removed-own q [] = refl
removed-own q (p ∷ ps) = by (nat_eq q p) refl (removed-own q ps)
  where
    by : (b : Bool) → nat_eq q p ≡ b → has q (removed q ps) ≡ false → has q (cond b (removed q ps) (p ∷ removed q ps)) ≡ false
    by true e h = h
    by false e h = ap (λ b. b || has q (removed q ps)) e ∙ h

pub removed-other : (r q : ℕ) (ps : List ℕ) → nat_eq r q ≡ false → has r (removed q ps) ≡ has r ps
removed-other r q [] d = refl
removed-other r q (p ∷ ps) d = by (nat_eq q p) refl (removed-other r q ps d)
  where
    by : (b : Bool) → nat_eq q p ≡ b → has r (removed q ps) ≡ has r ps → has r (cond b (removed q ps) (p ∷ removed q ps)) ≡ has r (p ∷ ps)
    by true e h = h ∙ sym (ap (λ b. b || has r ps) (ap (nat_eq r) (sym (eqb-true q p e)) ∙ d))
    by false e h = ap (λ b. nat_eq r p || b) h

-- rising lists stay so
pub above-less : (p q : ℕ) (ps : List ℕ) → p < q → AreAbove q ps → AreAbove p ps
above-less p q [] lt h = tt
above-less p q (x ∷ ps) lt h = (omega (arith, lt, h.0), h.1)

above-inserted : (p q : ℕ) (ps : List ℕ) → p < q → AreAbove p ps → AreAbove p (inserted q ps)
above-inserted p q [] lt h = (lt, tt)
above-inserted p q (x ∷ ps) lt h = by (nat_lt q x) (nat_eq q x) refl refl (λ less. above-inserted x q ps less h.1)
  where
    later : nat_lt q x ≡ false → nat_eq q x ≡ false → x < q
    later a b = grind (arith, nat_tests)

    sooner : nat_lt q x ≡ true → q < x
    sooner a = grind (arith, nat_tests)

    by : (a b : Bool) → nat_lt q x ≡ a → nat_eq q x ≡ b → (x < q → AreAbove x (inserted q ps)) → AreAbove p (cond a (q ∷ x ∷ ps) (cond b (x ∷ ps) (x ∷ inserted q ps)))
    by true b less same next = (lt, (sooner less, h.1))
    by false true less same next = h
    by false false less same next = (h.0, next (later less same))

pub rising-inserted : (q : ℕ) (ps : List ℕ) → AreRising ps → AreRising (inserted q ps)
rising-inserted q [] h = tt
rising-inserted q (x ∷ ps) h = by (nat_lt q x) (nat_eq q x) refl refl
  where
    later : nat_lt q x ≡ false → nat_eq q x ≡ false → x < q
    later a b = grind (arith, nat_tests)

    sooner : nat_lt q x ≡ true → q < x
    sooner a = grind (arith, nat_tests)

    by : (a b : Bool) → nat_lt q x ≡ a → nat_eq q x ≡ b → AreRising (cond a (q ∷ x ∷ ps) (cond b (x ∷ ps) (x ∷ inserted q ps)))
    by true b less same = (sooner less, h)
    by false true less same = h
    by false false less same = above-inserted x q ps (later less same) h

above-removed : (p q : ℕ) (ps : List ℕ) → AreAbove p ps → AreAbove p (removed q ps)
above-removed p q [] h = tt
above-removed p q (x ∷ ps) h = by (nat_eq q x) (above-removed p q ps (above-less p x ps h.0 h.1)) (above-removed x q ps h.1)
  where
    by : (b : Bool) → AreAbove p (removed q ps) → AreAbove x (removed q ps) → AreAbove p (cond b (removed q ps) (x ∷ removed q ps))
    by true below after = below
    by false below after = (h.0, after)

pub above-rising : (p : ℕ) (ps : List ℕ) → AreAbove p ps → AreRising ps
above-rising p [] h = tt
above-rising p (x ∷ ps) h = h.1

pub rising-removed : (q : ℕ) (ps : List ℕ) → AreRising ps → AreRising (removed q ps)
rising-removed q [] h = tt
rising-removed q (x ∷ ps) h = by (nat_eq q x)
  where
    by : (b : Bool) → AreRising (cond b (removed q ps) (x ∷ removed q ps))
    by true = above-rising x (removed q ps) (above-removed x q ps h)
    by false = above-removed x q ps h

-- a list above a number does not have it
pub above-absent : (p r : ℕ) (ps : List ℕ) → AreAbove p ps → r ≤ p → has r ps ≡ false
above-absent p r [] h le = refl
above-absent p r (x ∷ ps) h le = ap (λ b. b || has r ps) (unequal-numbers r x (λ same. absurd (omega (arith, same, le, h.0)))) ∙ above-absent x r ps h.1 (omega (arith, le, h.0))

-- two rising lists with the same members
pub same-members : (xs ys : List ℕ) → AreRising xs → AreRising ys → ((r : ℕ) → has r xs ≡ has r ys) → xs ≡ ys
same-members [] [] a b same = refl
same-members [] (y ∷ ys) a b same = absurd (true≢false (sym (same y ∙ ap (λ t. t || has y ys) (same-true y))))
same-members (x ∷ xs) [] a b same = absurd (true≢false (sym (ap (λ t. t || has x xs) (same-true x)) ∙ same x))
same-members (x ∷ xs) (y ∷ ys) a b same =
    let first = by (nat_lt x y) (nat_lt y x) refl refl in
    let rest = same-members xs ys (above-rising x xs a) (above-rising y ys b) (tails first) in
    ap (λ z. z ∷ xs) first ∙ ap (y ∷◌) rest
  where
    less : (i j : ℕ) → nat_lt i j ≡ true → i < j
    less i j e = grind (arith, nat_tests)

    equal : nat_lt x y ≡ false → nat_lt y x ≡ false → x ≡ y
    equal e f = grind (arith, nat_tests)

    apart : (i j : ℕ) → i < j → nat_eq i j ≡ false
    apart i j lt = unequal-numbers i j (λ e. absurd (omega (arith, e, lt)))

    by : (s t : Bool) → nat_lt x y ≡ s → nat_lt y x ≡ t → x ≡ y
    by true t e f = absurd (true≢false (sym (ap (λ t. t || has x xs) (same-true x)) ∙ same x ∙ ap (λ b. b || has x ys) (apart x y (less x y e)) ∙ above-absent y x ys b (omega (arith, less x y e))))
    by false true e f = absurd (true≢false (sym (ap (λ t. t || has y ys) (same-true y)) ∙ sym (same y) ∙ ap (λ b. b || has y xs) (apart y x (less y x f)) ∙ above-absent x y xs a (omega (arith, less y x f))))
    by false false e f = equal e f

    tail : (first : x ≡ y) (r : ℕ) (t : Bool) → nat_eq r x ≡ t → has r xs ≡ has r ys
    tail first r true e = let is = eqb-true r x e in above-absent x r xs a (omega (arith, is)) ∙ sym (above-absent y r ys b (omega (arith, is, first)))
    tail first r false e = sym (ap (λ b. b || has r xs) e) ∙ same r ∙ ap (λ b. b || has r ys) (ap (nat_eq r) (sym first) ∙ e)

    tails : (first : x ≡ y) (r : ℕ) → has r xs ≡ has r ys
    tails first r = tail first r (nat_eq r x) refl

-- the numbers of a range that pass a test
above-filter : (test : ℕ → Bool) (p i n : ℕ) → p < i → AreAbove p (filter test (range i n))
above-filter test p i zero lt = tt
above-filter test p i (suc n) lt = by (test i) (above-filter test i (suc i) n (omega arith)) (above-filter test p (suc i) n (omega (arith, lt)))
  where
    by : (b : Bool) → AreAbove i (filter test (range (suc i) n)) → AreAbove p (filter test (range (suc i) n)) → AreAbove p (cond b (i ∷ filter test (range (suc i) n)) (filter test (range (suc i) n)))
    by true own other = (lt, own)
    by false own other = other

pub rising-filter : (test : ℕ → Bool) (i n : ℕ) → AreRising (filter test (range i n))
rising-filter test i zero = tt
rising-filter test i (suc n) = by (test i) (rising-filter test (suc i) n)
  where
    by : (b : Bool) → AreRising (filter test (range (suc i) n)) → AreRising (cond b (i ∷ filter test (range (suc i) n)) (filter test (range (suc i) n)))
    by true h = above-filter test i (suc i) n (omega arith)
    by false h = h

failed-absent : (test : ℕ → Bool) (q i n : ℕ) → test q ≡ false → has q (filter test (range i n)) ≡ false
failed-absent test q i zero e = refl
failed-absent test q i (suc n) e = by (test i) refl (failed-absent test q (suc i) n e)
  where
    differs : (b : Bool) → nat_eq q i ≡ b → test i ≡ true → b ≡ false
    differs true same f = absurd (true≢false (sym f ∙ sym (ap test (eqb-true q i same)) ∙ e))
    differs false same f = refl

    by : (b : Bool) → test i ≡ b → has q (filter test (range (suc i) n)) ≡ false → has q (cond b (i ∷ filter test (range (suc i) n)) (filter test (range (suc i) n))) ≡ false
    by true f h = ap (λ b. b || has q (filter test (range (suc i) n))) (differs (nat_eq q i) refl f) ∙ h
    by false f h = h

passed-there : (test : ℕ → Bool) (q i n k : ℕ) → test q ≡ true → q ≡ i + k → k < n → has q (filter test (range i n)) ≡ true
passed-there test q i zero k e at lt = absurd (omega (arith, lt))
passed-there test q i (suc n) zero e at lt =
    let same : q ≡ i = omega (arith, at) in
    ap (λ b. has q (cond b (i ∷ filter test (range (suc i) n)) (filter test (range (suc i) n)))) (sym (ap test same) ∙ e)
    ∙ ap (λ b. b || has q (filter test (range (suc i) n))) (ap (nat_eq q) (sym same) ∙ same-true q)
passed-there test q i (suc n) (suc k) e at lt = by (test i) (passed-there test q (suc i) n k e (omega (arith, at)) (omega (arith, lt)))
  where
    or-true : (b : Bool) → (b || true) ≡ true
    or-true true = refl
    or-true false = refl

    by : (b : Bool) → has q (filter test (range (suc i) n)) ≡ true → has q (cond b (i ∷ filter test (range (suc i) n)) (filter test (range (suc i) n))) ≡ true
    by true h = ap (λ b. nat_eq q i || b) h ∙ or-true (nat_eq q i)
    by false h = h

-- a test that only numbers from 1 to n pass
pub has-filter : (test : ℕ → Bool) (n : ℕ) → ((q : ℕ) → test q ≡ true → (1 ≤ q) × (q ≤ n)) → (q : ℕ) → has q (filter test (range 1 n)) ≡ test q
has-filter test n within q = by (test q) refl
  where
    from-one : (q : ℕ) → 1 ≤ q → q ≤ n → test q ≡ true → has q (filter test (range 1 n)) ≡ true
    from-one zero one le e = absurd (omega (arith, one))
    from-one (suc k) one le e = passed-there test (suc k) 1 n k e (omega arith) (omega (arith, le))

    by : (b : Bool) → test q ≡ b → has q (filter test (range 1 n)) ≡ b
    by true e = let w = within q e in from-one q w.0 w.1 e
    by false e = failed-absent test q 1 n e

-- the first number from one on
pub next-passed : (p : ℕ) (ps : List ℕ) → has p ps ≡ false → next_from p ps ≡ next_from (suc p) ps
next-passed p [] e = refl
next-passed p (x ∷ ps) e = by (nat_eq p x) refl e (λ h. next-passed p ps h)
  where
    tests : nat_eq p x ≡ false → nat_lt x (suc p) ≡ nat_lt x p
    tests d = grind (arith, nat_tests)

    both : (a : Bool) → nat_lt x p ≡ a → next_from p ps ≡ next_from (suc p) ps → nat_lt x (suc p) ≡ a → cond (nat_lt x p) (next_from p ps) (Some x) ≡ cond (nat_lt x (suc p)) (next_from (suc p) ps) (Some x)
    both true f h g = ap (λ b. cond b (next_from p ps) (Some x)) f ∙ h ∙ sym (ap (λ b. cond b (next_from (suc p) ps) (Some x)) g)
    both false f h g = ap (λ b. cond b (next_from p ps) (Some x)) f ∙ sym (ap (λ b. cond b (next_from (suc p) ps) (Some x)) g)

    by : (b : Bool) → nat_eq p x ≡ b → (nat_eq p x || has p ps) ≡ false → (has p ps ≡ false → next_from p ps ≡ next_from (suc p) ps) → cond (nat_lt x p) (next_from p ps) (Some x) ≡ cond (nat_lt x (suc p)) (next_from (suc p) ps) (Some x)
    by true same none h = absurd (true≢false (sym (ap (λ b. b || has p ps) same) ∙ none))
    by false same none h = both (nat_lt x p) refl (h (sym (ap (λ b. b || has p ps) same) ∙ none)) (tests same)

pub next-own : (p : ℕ) (ps : List ℕ) → AreRising ps → has p ps ≡ true → next_from p ps ≡ Some p
next-own p [] r e = absurd (true≢false (sym e))
next-own p (x ∷ ps) r e = by (nat_eq p x) refl e (λ h. next-own p ps (above-rising x ps r) h)
  where
    not-less : nat_eq p x ≡ true → nat_lt x p ≡ false
    not-less d = grind (arith, nat_tests)

    less : (a : Bool) → nat_lt x p ≡ a → has p ps ≡ true → a ≡ true
    less true f h = refl
    less false f h = absurd (true≢false (sym h ∙ above-absent x p ps r (grind (arith, nat_tests))))

    by : (b : Bool) → nat_eq p x ≡ b → (nat_eq p x || has p ps) ≡ true → (has p ps ≡ true → next_from p ps ≡ Some p) → cond (nat_lt x p) (next_from p ps) (Some x) ≡ Some p
    by true same there h = ap (λ b. cond b (next_from p ps) (Some x)) (not-less same) ∙ ap (λ x. Some x) (sym (eqb-true p x same))
    by false same there h =
        let later : has p ps ≡ true = sym (ap (λ b. b || has p ps) same) ∙ there in
        ap (λ b. cond b (next_from p ps) (Some x)) (less (nat_lt x p) refl later) ∙ h later

-- from a number on nothing is there
pub next-none : (p : ℕ) (ps : List ℕ) → ((q : ℕ) → has q ps ≡ true → q < p) → next_from p ps ≡ None
next-none p [] all = refl
next-none p (x ∷ ps) all = ap (λ b. cond b (next_from p ps) (Some x)) (less (nat_lt x p) refl) ∙ next-none p ps (λ q e. all q (or-true q (nat_eq q x) e))
  where
    or-true : (q : ℕ) (b : Bool) → has q ps ≡ true → (b || has q ps) ≡ true
    or-true q true e = refl
    or-true q false e = e

    not-less : nat_lt x p ≡ false → p ≤ x
    not-less e = grind (arith, nat_tests)

    less : (b : Bool) → nat_lt x p ≡ b → b ≡ true
    less true e = refl
    less false e = let lt = all x (ap (λ b. b || has x ps) (same-true x)) in absurd (omega (arith, lt, not-less e))
