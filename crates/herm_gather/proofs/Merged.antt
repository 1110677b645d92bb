-- Entries that are sorted by their place in the order are a journal, if those of each process rise.
use Rattle.std.proofs.Common.{◌≡◌, ℕ, ◌+◌, ◌*◌, ◌<◌, ◌≤◌, Bool, List, [], ◌∷◌, filter, nat_eq, ◌^◌, ◌-◌, refl, sym, ap, subst, ◌∙◌, arith, inl, inr, ◌⊎◌}
use Rattle.std.proofs.lemmas.Bool.{cond-true, cond-false, cases_Bool}
use Rattle.std.specs.List.Sorted.{IsNonDecreasingBy, IsStableByKey}
use Rattle.std.specs.Ordering.{nat_cmp}
use Rattle.herm_journal.specs.Entries as source
use Rattle.herm_journal.specs.Journals.{IsBefore, IsRising, IsRisingFrom, part_of_process}
use Rattle.herm_events.specs.View.{entry_view, entries_view}
use Rattle.herm_events.specs.declared.entry.Entry.{Entry}
use Rattle.herm_gather.specs.Diaries.{AreOfNumber}
use Rattle.herm_gather.specs.Orders.{place_in_order, short_place}
use Rattle.herm_gather.proofs.SameNumber.{same-true, same-is}
use Rattle.herm_gather.proofs.SameClasses.{AreAtLeast, Rises, filters-swap, rises_from_sort, rises_kept, same_class, same_from_classes}

abbrev pub is_of : ℕ → Entry → Bool
is_of p e = nat_eq e.proc.number p

pub part-kept : (p : ℕ) (es : List Entry) → part_of_process p (entries_view es) ≡ entries_view (filter (is_of p) es)
part-kept p [] = refl
part-kept p (e ∷ es) =
    elim (cases_Bool (is_of p e)) [
      | inl with ↦
          cond-true (nat_eq e.proc.number p) (entry_view e ∷ part_of_process p (entries_view es)) (part_of_process p (entries_view es)) with
          ∙ ap (λ l. entry_view e ∷ l) (part-kept p es) ∙ sym (ap entries_view (cond-true (is_of p e) (e ∷ filter (is_of p) es) (filter (is_of p) es) with))
      | inr without ↦
          cond-false (nat_eq e.proc.number p) (entry_view e ∷ part_of_process p (entries_view es)) (part_of_process p (entries_view es)) without
          ∙ part-kept p es ∙ sym (ap entries_view (cond-false (is_of p e) (e ∷ filter (is_of p) es) (filter (is_of p) es) without))
    ]

pub are-of : (p : ℕ) (es : List Entry) → AreOfNumber p (filter (is_of p) es)
are-of p [] = tt
are-of p (e ∷ es) =
    elim (cases_Bool (is_of p e)) [
      | inl with ↦ subst (AreOfNumber p) (sym (cond-true (is_of p e) (e ∷ filter (is_of p) es) (filter (is_of p) es) with)) (same-is e.proc.number p with, are-of p es)
      | inr without ↦ subst (AreOfNumber p) (sym (cond-false (is_of p e) (e ∷ filter (is_of p) es) (filter (is_of p) es) without)) (are-of p es)
    ]

-- entries of one process that rise are in order
before-place : (e f : Entry) → e.proc.number ≡ f.proc.number → IsBefore (entry_view e) (entry_view f) → place_in_order e ≤ place_in_order f
before-place e f same (inl less) = omega arith
before-place e f same (inr both) = let stamps = both.0 in omega arith

-- by a number that does not fall where the place does not
module _ (key : Entry → ℕ) (rises : (e f : Entry) → place_in_order e ≤ place_in_order f → key e ≤ key f) where
  at-least-le : (n m : ℕ) (es : List Entry) → n ≤ m → AreAtLeast key m es → AreAtLeast key n es
  at-least-le n m [] le h = tt
  at-least-le n m (e ∷ es) le h = let first = h.0 in (omega arith, at-least-le n m es le h.1)

  placed-from : (p : ℕ) (e : Entry) (es : List Entry) → e.proc.number ≡ p → AreOfNumber p es → IsRisingFrom (entry_view e) (entries_view es) → AreAtLeast key (key e) es × Rises key es
  placed-from p e [] its all rising = (tt, tt)
  placed-from p e (f ∷ es) its all rising =
      let rest = placed-from p f es all.0 all.1 rising.1 in
      let le : key e ≤ key f = rises e f (before-place e f (its ∙ sym all.0) rising.0) in
      ((le, at-least-le (key e) (key f) es le rest.0), rest)

  pub placed : (p : ℕ) (es : List Entry) → AreOfNumber p es → IsRising (entries_view es) → Rises key es
  placed p [] all rising = tt
  placed p (e ∷ es) all rising = placed-from p e es all.0 all.1 rising

  -- each process has the same entries in the same order
  pub same-parts : (xs ys : List Entry) → ((p : ℕ) → IsRising (part_of_process p (entries_view xs))) → IsNonDecreasingBy key ys → IsStableByKey key nat_cmp xs ys
      → (p : ℕ) → part_of_process p (entries_view ys) ≡ part_of_process p (entries_view xs)
  same-parts xs ys rise sorted stable p =
      part-kept p ys
      ∙ ap entries_view
      (same_from_classes key (filter (is_of p) ys) (filter (is_of p) xs) (rises_kept key (is_of p) ys (rises_from_sort key ys sorted))
      (placed p (filter (is_of p) xs) (are-of p xs) (subst IsRising (part-kept p xs) (rise p)))
      (λ x. filters-swap (same_class key x) (is_of p) ys ∙ ap (filter (is_of p)) (stable x) ∙ filters-swap (is_of p) (same_class key x) xs))
      ∙ sym (part-kept p xs)

-- numbers of processes are small
abbrev pub AreFew : List Entry → Type 0
AreFew [] = Unit {0}
AreFew (e ∷ es) = (e.proc.number < 2048) × AreFew es

stamps-or : (s t p q : ℕ) → q < 2048 → s * 2048 + p ≤ t * 2048 + q → (s < t) ⊎ ((s ≡ t) × (p ≤ q))
stamps-or s t p q few le = grind (arith)

less-or : (p q : ℕ) → p ≤ q → (p < q) ⊎ (p ≡ q)
less-or p q le = grind (arith)

first-two : (p : ℕ) (e f : Entry) (es : List Entry) → e.proc.number ≡ p → f.proc.number ≡ p
    → part_of_process p (entries_view (e ∷ f ∷ es)) ≡ entry_view e ∷ entry_view f ∷ part_of_process p (entries_view es)
first-two p e f es a b =
    cond-true (nat_eq e.proc.number p) (entry_view e ∷ part_of_process p (entries_view (f ∷ es))) (part_of_process p (entries_view (f ∷ es))) (same-true e.proc.number p a)
    ∙ ap (λ l. entry_view e ∷ l)
    (cond-true (nat_eq f.proc.number p) (entry_view f ∷ part_of_process p (entries_view es)) (part_of_process p (entries_view es)) (same-true f.proc.number p b))

rising-tail : (e : source.Entry) (es : List source.Entry) → IsRisingFrom e es → IsRising es
rising-tail e [] r = tt
rising-tail e (f ∷ fs) r = r.1

tail-rises : (p : ℕ) (e : Entry) (es : List Entry) → IsRising (part_of_process p (entries_view (e ∷ es))) → IsRising (part_of_process p (entries_view es))
tail-rises p e es h =
    let rest = part_of_process p (entries_view es) in
    elim (cases_Bool (nat_eq e.proc.number p)) [
      | inl with ↦ rising-tail (entry_view e) rest (subst IsRising (cond-true (nat_eq e.proc.number p) (entry_view e ∷ rest) rest with) h)
      | inr without ↦ subst IsRising (cond-false (nat_eq e.proc.number p) (entry_view e ∷ rest) rest without) h
    ]

before-as : (e f : Entry) → (e.stamp.0 < f.stamp.0) ⊎ ((e.stamp.0 ≡ f.stamp.0) × (e.proc.number ≤ f.proc.number)) → (e.proc.number ≡ f.proc.number → IsBefore (entry_view e) (entry_view f)) → IsBefore (entry_view e) (entry_view f)
before-as e f (inl less) same = inl less
before-as e f (inr both) same =
    elim (less-or e.proc.number f.proc.number both.1) [
      | inl less ↦ inr (both.0, less)
      | inr equal ↦ same equal
    ]

-- and they rise
pub journal-rises : (ys : List Entry) → AreFew ys → Rises place_in_order ys → ((p : ℕ) → IsRising (part_of_process p (entries_view ys))) → IsRising (entries_view ys)
journal-rises [] few sorted rise = tt
journal-rises (e ∷ []) few sorted rise = tt
journal-rises (e ∷ f ∷ es) few sorted rise = (
  before-as e f (stamps-or e.stamp.0 f.stamp.0 e.proc.number f.proc.number few.1.0 sorted.0.0)
      (λ same. (subst IsRising (first-two f.proc.number e f es same refl) (rise f.proc.number)).0),
  journal-rises (f ∷ es) few.1 sorted.1 (λ p. tail-rises p e (f ∷ es) (rise p)),
)

pub few-of : (e : Entry) → e.proc.number < 2048
few-of e = omega (arith, e.proc.in_range)

pub are-few : (es : List Entry) → AreFew es
are-few [] = tt
are-few (e ∷ es) = (few-of e, are-few es)

pub same-place : (e f : Entry) → place_in_order e ≤ place_in_order f → place_in_order e ≤ place_in_order f
same-place e f le = le

-- a place cut to 64 bits is the place where the cut leaves less than the most
pub short-is : (e : Entry) → short_place e < 2 ^ 64 - 1 → short_place e ≡ place_in_order e
short-is e h = grind (arith)

pub rises-again : (xs ys : List Entry) → ((p : ℕ) → part_of_process p (entries_view ys) ≡ part_of_process p (entries_view xs)) → ((p : ℕ) → IsRising (part_of_process p (entries_view xs)))
    → (p : ℕ) → IsRising (part_of_process p (entries_view ys))
rises-again xs ys parts rise p = subst IsRising (sym (parts p)) (rise p)

pub sorted-rises : (ys : List Entry) → IsNonDecreasingBy place_in_order ys → ((p : ℕ) → IsRising (part_of_process p (entries_view ys))) → IsRising (entries_view ys)
sorted-rises ys sorted rise = journal-rises ys (are-few ys) (rises_from_sort place_in_order ys sorted) rise
