-- A rising list of entries is known by its parts by process.
use Rattle.std.proofs.Common.{◌≡◌, ℕ, List, [], ◌∷◌, Bool, true, false, cond, inl, inr, refl, sym, ap, subst, ◌∙◌, nat_eq, arith, filter}
use Rattle.std.proofs.lemmas.Bool.Decides.{nat_tests}
use Rattle.herm_model.specs.Lists.{IsIn}
use Rattle.herm_model.proofs.Lists.{cons-tail, in-filter_from}
use Rattle.herm_journal.specs.Entries.{Entry}
use Rattle.herm_journal.specs.Journals.{IsBefore, IsRisingFrom, IsRising, part_of_process}

pub same-true : (n : ℕ) → nat_eq n n ≡ true
same-true n = grind (arith, nat_tests)

kept-first : {X : Type 0} (test : X → Bool) (x : X) (xs : List X) → test x ≡ true → filter test (x ∷ xs) ≡ x ∷ filter test xs
kept-first test x xs e = ap (λ b. cond b (x ∷ filter test xs) (filter test xs)) e

before-next : (e f g : Entry) → IsBefore e f → IsBefore f g → IsBefore e g
before-next e f g (inl a) (inl b) = inl (omega arith)
before-next e f g (inl a) (inr b) = inl (omega (arith, b.0))
before-next e f g (inr a) (inl b) = inl (omega (arith, a.0))
before-next e f g (inr a) (inr b) = inr (omega (arith, a.0, b.0), omega (arith, a.1, b.1))

before-all : (e : Entry) (es : List Entry) → IsRisingFrom e es → (f : Entry) → IsIn f es → IsBefore e f
before-all e [] r f h = absurd h
before-all e (g ∷ gs) r f (inl p) = subst (λ x. IsBefore e x) (sym p) r.0
before-all e (g ∷ gs) r f (inr i) = before-next e g f r.0 (before-all g gs r.1 f i)

not-both : {A : Type 0} (e f : Entry) → IsBefore e f → IsBefore f e → A
not-both e f (inl a) (inl b) = absurd (omega (arith, a, b))
not-both e f (inl a) (inr b) = absurd (omega (arith, a, b.0))
not-both e f (inr a) (inl b) = absurd (omega (arith, a.0, b))
not-both e f (inr a) (inr b) = absurd (omega (arith, a.1, b.1))

rising-tail : (e : Entry) (es : List Entry) → IsRisingFrom e es → IsRising es
rising-tail e [] r = tt
rising-tail e (f ∷ fs) r = r.1

abbrev SameParts : List Entry → List Entry → Type 0
SameParts j k = (p : ℕ) → part_of_process p j ≡ part_of_process p k

-- the first entry of one list is in the other
first-in : (e : Entry) (es k : List Entry) → SameParts (e ∷ es) k → IsIn e k
first-in e es k same = (in-filter_from (λ (x : Entry). nat_eq x.process e.process) e k (subst (IsIn e) (sym (kept-first (λ (x : Entry). nat_eq x.process e.process) e es (same-true e.process)) ∙ same e.process) (inl refl))).0

first-same : (e f : Entry) (es fs : List Entry) → IsRisingFrom e es → IsRisingFrom f fs → IsIn e (f ∷ fs) → IsIn f (e ∷ es) → e ≡ f
first-same e f es fs r s (inl p) h = p
first-same e f es fs r s (inr i) (inl p) = sym p
first-same e f es fs r s (inr i) (inr j) = not-both e f (before-all e es r f j) (before-all f fs s e i)

tail-same : (p : ℕ) (e : Entry) (js ks : List Entry) (b : Bool) → cond b (e ∷ js) js ≡ cond b (e ∷ ks) ks → js ≡ ks
tail-same p e js ks true h = cons-tail h
tail-same p e js ks false h = h

rest-same : (e : Entry) (es fs : List Entry) → SameParts (e ∷ es) (e ∷ fs) → SameParts es fs
rest-same e es fs same p = tail-same p e (part_of_process p es) (part_of_process p fs) (nat_eq e.process p) (same p)

pub one-journal : (j k : List Entry) → IsRising j → IsRising k → SameParts j k → j ≡ k
one-journal [] [] r s same = refl
one-journal [] (f ∷ fs) r s same = absurd (first-in f fs [] (λ p. sym (same p)))
one-journal (e ∷ es) [] r s same = absurd (first-in e es [] same)
one-journal (e ∷ es) (f ∷ fs) r s same =
    let p = first-same e f es fs r s (first-in e es (f ∷ fs) same) (first-in f fs (e ∷ es) (λ q. sym (same q)))
    in ap (e ∷◌) (one-journal es fs (rising-tail e es r) (rising-tail f fs s) (rest-same e es fs (subst (λ x. SameParts (e ∷ es) (x ∷ fs)) (sym p) same))) ∙ ap (λ x. x ∷ fs) p
