-- The entries of all diaries of a run: those of each process are its part of the journal.
use Rattle.std.proofs.Common.{◌≡◌, ℕ, zero, suc, ◌+◌, ◌<◌, ◌≤◌, List, [], ◌∷◌, ◌++◌, length, filter, nat_eq, Bool, true, false, cond, Some, None, inl, inr, refl, sym, ap, ap₂, subst, ◌∙◌, arith}
use Rattle.std.specs.Prelude.{slice_get, ⊤, ◌⊎◌}
use Rattle.std.proofs.lemmas.Bool.{cases_lt}
use Rattle.std.proofs.lemmas.Bool.Decides.{nat_tests}
use Rattle.std.proofs.lemmas.List.{append-nil}
use Rattle.herm_journal.specs.Entries.{Entry}
use Rattle.herm_journal.specs.Journals.{IsBefore, IsRising, IsRisingFrom, part_of_process}
use Rattle.herm_system.specs.Systems.{numbered_from_one}
use Rattle.herm_process.specs.Processes.{ProcessState}
use Rattle.herm_world.specs.Reported.{all_entries}
use Rattle.herm_world.proofs.Noting.{none-past}

filter-joined : {X : Type 0} (test : X → Bool) (xs ys : List X) → filter test (xs ++ ys) ≡ filter test xs ++ filter test ys
filter-joined test [] ys = refl
filter-joined {X} test (x ∷ xs) ys = by (test x) (filter-joined test xs ys)
  where
    by : (b : Bool) → filter test (xs ++ ys) ≡ filter test xs ++ filter test ys → cond b (x ∷ filter test (xs ++ ys)) (filter test (xs ++ ys)) ≡ cond b (x ∷ filter test xs) (filter test xs) ++ filter test ys
    by true e = ap (x ∷◌) e
    by false e = e

never-both : {X : Type 0} (f g : X → Bool) → ((x : X) → g x ≡ true → f x ≡ false) → (xs : List X) → filter f (filter g xs) ≡ []
never-both f g apart [] = refl
never-both {X} f g apart (x ∷ xs) = by (g x) refl (never-both f g apart xs)
  where
    by : (b : Bool) → g x ≡ b → filter f (filter g xs) ≡ [] → filter f (cond b (x ∷ filter g xs) (filter g xs)) ≡ []
    by true e rest = ap (λ b. cond b (x ∷ filter f (filter g xs)) (filter f (filter g xs))) (apart x e) ∙ rest
    by false e rest = rest

same-twice : {X : Type 0} (f : X → Bool) (xs : List X) → filter f (filter f xs) ≡ filter f xs
same-twice f [] = refl
same-twice {X} f (x ∷ xs) = by (f x) refl (same-twice f xs)
  where
    by : (b : Bool) → f x ≡ b → filter f (filter f xs) ≡ filter f xs → filter f (cond b (x ∷ filter f xs) (filter f xs)) ≡ cond b (x ∷ filter f xs) (filter f xs)
    by true e rest = ap (λ b. cond b (x ∷ filter f (filter f xs)) (filter f (filter f xs))) e ∙ ap (x ∷◌) rest
    by false e rest = rest

apart-test : (n p q : ℕ) → (p ≡ q → ⊥) → nat_eq n q ≡ true → nat_eq n p ≡ false
apart-test n p q differ e = grind (arith, nat_tests)

other-part : (j : List Entry) (p q : ℕ) → (p ≡ q → ⊥) → part_of_process p (part_of_process q j) ≡ []
other-part j p q differ = never-both (λ (e : Entry). nat_eq e.process p) (λ (e : Entry). nat_eq e.process q) (λ e h. apart-test e.process p q differ h) j

own-part : (j : List Entry) (p q : ℕ) → p ≡ q → part_of_process p (part_of_process q j) ≡ part_of_process p j
own-part j p q e = ap (λ q. part_of_process p (part_of_process q j)) (sym e) ∙ same-twice (λ (e : Entry). nat_eq e.process p) j

module _ (j : List Entry) where
  -- the diaries of processes from this number on
  abbrev AreDiaries : ℕ → List ProcessState → Type 0
  AreDiaries n [] = ⊤
  AreDiaries n (x ∷ xs) = (x.diary ≡ part_of_process n j) × AreDiaries (suc n) xs

  diaries-from : (n : ℕ) (xs : List ProcessState) → ((i : ℕ) (x : ProcessState) → slice_get xs i ≡ Some x → x.diary ≡ part_of_process (n + i) j) → AreDiaries n xs
  diaries-from n [] h = tt
  diaries-from n (x ∷ xs) h = (
    h 0 x refl ∙ ap (λ k. part_of_process k j) (omega arith),
    diaries-from (suc n) xs (λ i y e. h (suc i) y e ∙ ap (λ k. part_of_process k j) (omega arith)),
  )

  joined : (p : ℕ) (x : ProcessState) (xs : List ProcessState) → part_of_process p (all_entries (x ∷ xs)) ≡ part_of_process p x.diary ++ part_of_process p (all_entries xs)
  joined p x xs = filter-joined (λ (e : Entry). nat_eq e.process p) x.diary (all_entries xs)

  outside : (n p : ℕ) (xs : List ProcessState) → AreDiaries n xs → (p < n) ⊎ (n + length xs ≤ p) → part_of_process p (all_entries xs) ≡ []
  outside n p [] are out = refl
  outside n p (x ∷ xs) are (inl lt) =
      joined p x xs ∙ ap₂ ◌++◌ (ap (part_of_process p) are.0 ∙ other-part j p n (λ e. omega (arith, e, lt))) (outside (suc n) p xs are.1 (inl (omega (arith, lt))))
  outside n p (x ∷ xs) are (inr le) =
      joined p x xs ∙ ap₂ ◌++◌ (ap (part_of_process p) are.0 ∙ other-part j p n (λ e. omega (arith, e, le))) (outside (suc n) p xs are.1 (inr (omega (arith, le))))

  inside : (n p : ℕ) (xs : List ProcessState) → AreDiaries n xs → n ≤ p → p < n + length xs → part_of_process p (all_entries xs) ≡ part_of_process p j
  inside n p [] are le lt = absurd (omega (arith, le, lt))
  inside n p (x ∷ xs) are le lt =
      joined p x xs
      ∙ elim (cases_lt n p) [
        | inl less ↦
            ap₂ ◌++◌ (ap (part_of_process p) are.0 ∙ other-part j p n (λ e. omega (arith, e, less))) (inside (suc n) p xs are.1 (omega (arith, less)) (omega (arith, lt)))
        | inr more ↦
            let same : p ≡ n = omega (arith, le, more) in
            ap₂ ◌++◌ (ap (part_of_process p) are.0 ∙ own-part j p n same) (outside (suc n) p xs are.1 (inl (omega (arith, same)))) ∙ append-nil (part_of_process p j)
      ]

  its-diaries : (ps : List ProcessState) → ((p : ℕ) (x : ProcessState) → numbered_from_one p ps ≡ Some x → x.diary ≡ part_of_process p j) → AreDiaries 1 ps
  its-diaries ps told = diaries-from 1 ps (λ i x e. told (suc i) x e ∙ ap (λ k. part_of_process k j) (let e : suc i ≡ 1 + i = omega arith in e))

  pub all-parts : (ps : List ProcessState) → ((p : ℕ) (x : ProcessState) → numbered_from_one p ps ≡ Some x → x.diary ≡ part_of_process p j) → ((p : ℕ) → numbered_from_one p ps ≡ None → part_of_process p j ≡ [])
      → (p : ℕ) → part_of_process p (all_entries ps) ≡ part_of_process p j
  all-parts ps told fresh zero = outside 1 0 ps (its-diaries ps told) (inl (omega arith)) ∙ sym (fresh 0 refl)
  all-parts ps told fresh (suc i) =
      let are = its-diaries ps told in
      elim (cases_lt i (length ps)) [
        | inl less ↦ inside 1 (suc i) ps are (omega arith) (omega (arith, less))
        | inr more ↦ outside 1 (suc i) ps are (inr (omega (arith, more))) ∙ sym (fresh (suc i) (none-past ps i (λ lt. omega (arith, lt, more))))
      ]

before-next : (e f g : Entry) → IsBefore e f → IsBefore f g → IsBefore e g
before-next e f g (inl a) (inl b) = inl (omega arith)
before-next e f g (inl a) (inr b) = inl (omega (arith, b.0))
before-next e f g (inr a) (inl b) = inl (omega (arith, a.0))
before-next e f g (inr a) (inr b) = inr (omega (arith, a.0, b.0), omega (arith, a.1, b.1))

past-one : (e f : Entry) (fs : List Entry) → IsBefore e f → IsRisingFrom f fs → IsRisingFrom e fs
past-one e f [] a r = tt
past-one e f (g ∷ gs) a r = (before-next e f g a r.0, r.1)

kept-from : (test : Entry → Bool) (e : Entry) (es : List Entry) → IsRisingFrom e es → IsRisingFrom e (filter test es)
kept-from test e [] r = tt
kept-from test e (f ∷ fs) r = by (test f) (kept-from test f fs r.1) (kept-from test e fs (past-one e f fs r.0 r.1))
  where
    by : (b : Bool) → IsRisingFrom f (filter test fs) → IsRisingFrom e (filter test fs) → IsRisingFrom e (cond b (f ∷ filter test fs) (filter test fs))
    by true kept passed = (r.0, kept)
    by false kept passed = passed

rising-tail : (e : Entry) (es : List Entry) → IsRisingFrom e es → IsRising es
rising-tail e [] r = tt
rising-tail e (f ∷ fs) r = r.1

-- a part of a journal that rises does too
pub kept-rises : (test : Entry → Bool) (es : List Entry) → IsRising es → IsRising (filter test es)
kept-rises test [] r = tt
kept-rises test (e ∷ es) r = by (test e) (kept-from test e es r) (kept-rises test es (rising-tail e es r))
  where
    by : (b : Bool) → IsRisingFrom e (filter test es) → IsRising (filter test es) → IsRising (cond b (e ∷ filter test es) (filter test es))
    by true kept passed = kept
    by false kept passed = passed
