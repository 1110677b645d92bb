-- A run's entries in order fit its diaries and histories.
use Rattle.std.proofs.Common.{◌≡◌, ℕ, ◌<◌, List, [], ◌∷◌, ◌++◌, filter, Bool, true, false, cond, ◌&&◌, ◌||◌, ◌⊎◌, inl, inr, refl, sym, ap, subst, ◌∙◌, arith, true≢false}
use Rattle.std.proofs.lemmas.Bool.{eqb-true, ltb-true, or_left}
use Rattle.std.specs.Prelude.{nat_eq, nat_lt}
use Rattle.std.proofs.lemmas.Bool.Decides.{nat_tests}
use Rattle.herm_model.specs.Lists.{IsIn}
use Rattle.herm_journal.specs.Entries.{Entry}
use Rattle.herm_journal.specs.Journals.{IsBefore, IsRisingFrom, IsRising, is_before, with_next, ordered}
use Rattle.herm_journal.specs.Stamps.{last_stamp}
use Rattle.herm_journal.proofs.Rising.{same-true}

-- later entries that pass a test with this one have later stamps
abbrev pub Leads : (Entry → Bool) → Entry → List Entry → Type 0
Leads test e es = test e ≡ true → (f : Entry) → IsIn f es → test f ≡ true → e.stamp < f.stamp

abbrev pub Ascends : (Entry → Bool) → List Entry → Type 0
Ascends test [] = Unit {0}
Ascends test (e ∷ es) = Leads test e es × Ascends test es

pub before-later : (e f : Entry) → e.stamp < f.stamp → is_before e f ≡ true
before-later e f lt = or_left (nat_lt e.stamp f.stamp) _ (less-true e.stamp f.stamp lt)
  where
    less-true : (m n : ℕ) → m < n → nat_lt m n ≡ true
    less-true m n lt = grind (arith, nat_tests)

-- what a filter keeps of a list into which an entry was put in order
pub in-more : (f e : Entry) (es : List Entry) → IsIn f (es ++ e ∷ []) → IsIn f es ⊎ (f ≡ e)
in-more f e [] (inl p) = inr p
in-more f e [] (inr i) = absurd i
in-more f e (x ∷ es) (inl p) = inl (inl p)
in-more f e (x ∷ es) (inr i) = later (in-more f e es i)
  where
    later : IsIn f es ⊎ (f ≡ e) → IsIn f (x ∷ es) ⊎ (f ≡ e)
    later (inl j) = inl (inr j)
    later (inr p) = inr p

kept-next : (test : Entry → Bool) (e : Entry) (es : List Entry) → Leads test e es → filter test (with_next e es) ≡ filter test (e ∷ es)
kept-next test e [] leads = refl
kept-next test e (f ∷ fs) leads = by_order (is_before e f) refl (kept-next test e fs (λ t g i. leads t g (inr i)))
  where
    swap : (a b : Bool) → test e ≡ a → test f ≡ b → is_before e f ≡ false → cond b (f ∷ cond a (e ∷ filter test fs) (filter test fs)) (cond a (e ∷ filter test fs) (filter test fs)) ≡ cond a (e ∷ cond b (f ∷ filter test fs) (filter test fs)) (cond b (f ∷ filter test fs) (filter test fs))
    swap true true s t o = absurd (true≢false (sym (before-later e f (leads s f (inl refl) t)) ∙ o))
    swap true false s t o = refl
    swap false true s t o = refl
    swap false false s t o = refl

    by_order : (b : Bool) → is_before e f ≡ b → filter test (with_next e fs) ≡ filter test (e ∷ fs) → filter test (cond b (e ∷ f ∷ fs) (f ∷ with_next e fs)) ≡ filter test (e ∷ f ∷ fs)
    by_order true o again = refl
    by_order false o again = ap (λ ys. cond (test f) (f ∷ ys) ys) again ∙ swap (test e) (test f) refl refl o

in-next : (e f : Entry) (es : List Entry) → IsIn f (with_next e es) → (f ≡ e) ⊎ IsIn f es
in-next e f [] (inl p) = inl p
in-next e f [] (inr h) = absurd h
in-next e f (g ∷ gs) h = by_order (is_before e g) h (in-next e f gs)
  where
    by_order : (b : Bool) → IsIn f (cond b (e ∷ g ∷ gs) (g ∷ with_next e gs)) → (IsIn f (with_next e gs) → (f ≡ e) ⊎ IsIn f gs) → (f ≡ e) ⊎ IsIn f (g ∷ gs)
    by_order true (inl p) again = inl p
    by_order true (inr i) again = inr i
    by_order false (inl p) again = inr (inl p)
    by_order false (inr i) again = later (again i)
      where
        later : (f ≡ e) ⊎ IsIn f gs → (f ≡ e) ⊎ IsIn f (g ∷ gs)
        later (inl p) = inl p
        later (inr i) = inr (inr i)

in-ordered : (f : Entry) (es : List Entry) → IsIn f (ordered es) → IsIn f es
in-ordered f [] i = i
in-ordered f (e ∷ es) i = by_place (in-next e f (ordered es) i) (in-ordered f es)
  where
    by_place : (f ≡ e) ⊎ IsIn f (ordered es) → (IsIn f (ordered es) → IsIn f es) → IsIn f (e ∷ es)
    by_place (inl p) again = inl p
    by_place (inr j) again = inr (again j)

pub kept-ordered : (test : Entry → Bool) (es : List Entry) → Ascends test es → filter test (ordered es) ≡ filter test es
kept-ordered test [] a = refl
kept-ordered test (e ∷ es) a =
    kept-next test e (ordered es) (λ t f i. a.0 t f (in-ordered f es i)) ∙ ap (λ ys. cond (test e) (e ∷ ys) ys) (kept-ordered test es a.1)

-- entries of which none has another's stamp and process
abbrev pub Differs : Entry → List Entry → Type 0
Differs e es = (f : Entry) → IsIn f es → (e.stamp ≡ f.stamp) × (e.process ≡ f.process) → ⊥

abbrev pub AllDiffer : List Entry → Type 0
AllDiffer [] = Unit {0}
AllDiffer (e ∷ es) = Differs e es × AllDiffer es

before-is : (e f : Entry) → is_before e f ≡ true → IsBefore e f
before-is e f h = by_tests (nat_lt e.stamp f.stamp) (nat_eq e.stamp f.stamp) (nat_lt e.process f.process) refl refl refl h
  where
    by_tests : (a b c : Bool) → nat_lt e.stamp f.stamp ≡ a → nat_eq e.stamp f.stamp ≡ b → nat_lt e.process f.process ≡ c → (a || (b && c)) ≡ true → IsBefore e f
    by_tests true b c p q r h = inl (ltb-true e.stamp f.stamp p)
    by_tests false true true p q r h = inr (eqb-true e.stamp f.stamp q, ltb-true e.process f.process r)
    by_tests false true false p q r h = absurd (true≢false (sym h))
    by_tests false false c p q r h = absurd (true≢false (sym h))

after-is : (e f : Entry) → is_before e f ≡ false → ((e.stamp ≡ f.stamp) × (e.process ≡ f.process) → ⊥) → IsBefore f e
after-is e f h differ = by_tests (nat_lt e.stamp f.stamp) (nat_eq e.stamp f.stamp) (nat_lt e.process f.process) refl refl refl h
  where
    other : (m n : ℕ) → nat_lt m n ≡ false → nat_eq m n ≡ false → n < m
    other m n p q = grind (arith, nat_tests)

    not_less : (m n : ℕ) → nat_lt m n ≡ false → (m ≡ n → ⊥) → n < m
    not_less m n p q = split (nat_eq m n) refl
      where
        split : (t : Bool) → nat_eq m n ≡ t → n < m
        split true s = absurd (q (grind (arith, nat_tests)))
        split false s = other m n p s

    by_tests : (a b c : Bool) → nat_lt e.stamp f.stamp ≡ a → nat_eq e.stamp f.stamp ≡ b → nat_lt e.process f.process ≡ c → (a || (b && c)) ≡ false → IsBefore f e
    by_tests true b c p q r h = absurd (true≢false h)
    by_tests false true true p q r h = absurd (true≢false h)
    by_tests false true false p q r h = inr (sym (eqb-true e.stamp f.stamp q), not_less e.process f.process r (λ s. differ (eqb-true e.stamp f.stamp q, s)))
    by_tests false false c p q r h = inl (other e.stamp f.stamp p q)

next-from : (g e : Entry) (fs : List Entry) → IsBefore g e → Differs e fs → IsRisingFrom g fs → IsRisingFrom g (with_next e fs)
next-from g e [] b d r = (b, tt)
next-from g e (f ∷ fs) b d r = by_order (is_before e f) refl (λ c. next-from f e fs c (λ h i. d h (inr i)) r.1)
  where
    by_order : (t : Bool) → is_before e f ≡ t → (IsBefore f e → IsRisingFrom f (with_next e fs)) → IsRisingFrom g (cond t (e ∷ f ∷ fs) (f ∷ with_next e fs))
    by_order true o again = (b, (before-is e f o, r.1))
    by_order false o again = (r.0, again (after-is e f o (d f (inl refl))))

rising-next : (e : Entry) (es : List Entry) → Differs e es → IsRising es → IsRising (with_next e es)
rising-next e [] d r = tt
rising-next e (f ∷ fs) d r = by_order (is_before e f) refl
  where
    by_order : (t : Bool) → is_before e f ≡ t → IsRising (cond t (e ∷ f ∷ fs) (f ∷ with_next e fs))
    by_order true o = (before-is e f o, r)
    by_order false o = next-from f e fs (after-is e f o (d f (inl refl))) (λ g i. d g (inr i)) r

pub rising-ordered : (es : List Entry) → AllDiffer es → IsRising (ordered es)
rising-ordered [] d = tt
rising-ordered (e ∷ es) d = rising-next e (ordered es) (λ f i. d.0 f (in-ordered f es i)) (rising-ordered es d.1)

-- with one entry more
pub ascends-more : (test : Entry → Bool) (es : List Entry) (e : Entry) → Ascends test es → (test e ≡ true → (f : Entry) → IsIn f es → test f ≡ true → f.stamp < e.stamp) → Ascends test (es ++ e ∷ [])
ascends-more test [] e a later = ((λ t f i. absurd i), tt)
ascends-more test (x ∷ es) e a later = (first, ascends-more test es e a.1 (λ t f i. later t f (inr i)))
  where
    first : Leads test x (es ++ e ∷ [])
    first t f i u = by_place (in-more f e es i)
      where
        by_place : IsIn f es ⊎ (f ≡ e) → x.stamp < f.stamp
        by_place (inl j) = a.0 t f j u
        by_place (inr p) = subst (λ g. x.stamp < g.stamp) (sym p) (later (subst (λ g. test g ≡ true) p u) x (inl refl) t)

pub all-differ : (es : List Entry) → ((p : ℕ) → Ascends (λ (e : Entry). nat_eq e.process p) es) → AllDiffer es
all-differ [] a = tt
all-differ (e ∷ es) a = ((λ f i same. below e f ((a e.process).0 (same-true e.process) f i (ap (λ n. nat_eq n e.process) (sym same.1) ∙ same-true e.process)) same.0), all-differ es (λ p. (a p).1))
  where
    below : (e f : Entry) → e.stamp < f.stamp → e.stamp ≡ f.stamp → ⊥
    below e f lt same = omega (arith, lt, same)

pub last-more : (test : Entry → Bool) (s : ℕ) (es : List Entry) (e : Entry) → last_stamp test s (es ++ e ∷ []) ≡ cond (test e) e.stamp (last_stamp test s es)
last-more test s [] e = refl
last-more test s (x ∷ es) e = last-more test (cond (test x) x.stamp s) es e
