-- The places of diaries, sorted, are turns at them; entries whose places are sorted rise.
use Rattle.std.proofs.Common.{◌≡◌, ℕ, suc, ◌+◌, cond, List, [], ◌∷◌, map, filter, nat_eq, nat_cmp, replicate, refl, sym, ap, subst, ◌∙◌, arith, inl, inr}
use Rattle.std.specs.List.{sum_by}
use Rattle.std.specs.List.Sorted.{IsPermutation, IsSorted}
use Rattle.std.proofs.lemmas.Bool.{cond-true, cond-false, cases_Bool}
use Rattle.std.proofs.lemmas.Nat.{mod-mul-add}
use Rattle.std.proofs.lemmas.List.Sorted.{sum_by-IsPermutation, IsNonDecreasingBy-from_sort}
use Rattle.std.proofs.lemmas.List.Sums.{sum_by-cons}
use Rattle.herm_journal.specs.Journals.{IsRising, part_of_process}
use Rattle.herm_events.specs.View.{entries_view}
use Rattle.herm_events.specs.declared.entry.Entry.{Entry}
use Rattle.herm_gather.specs.Diaries.{AreOwn, AreTurns, all_of}
use Rattle.herm_gather.specs.Orders.{place_in_order}
use Rattle.herm_gather.proofs.Merged.{is_of, are-few, are-of, few-of, journal-rises, part-kept, placed, same-place}
use Rattle.herm_gather.proofs.Owned.{part-own}
use Rattle.herm_gather.proofs.SameClasses.{AreAtLeast, Rises, filters-swap, rises_from_sort, rises_kept, same_class, same_class-true, same_from_classes}
use Rattle.herm_gather.proofs.InTurn.{of_number}

abbrev itself : ℕ → ℕ
itself n = n

-- ---- numbers that are equal to one

abbrev counted : ℕ → ℕ → ℕ
counted x n = cond (same_class itself x n) 1 0

added-one : (n : ℕ) → 1 + n ≡ suc n
added-one n = omega arith

added-none : (n : ℕ) → 0 + n ≡ n
added-none n = omega arith

copies : (x : ℕ) (xs : List ℕ) → filter (same_class itself x) xs ≡ replicate (sum_by (counted x) xs) x
copies x [] = refl
copies x (y ∷ ys) =
    elim (cases_Bool (same_class itself x y)) [
      | inl with ↦
          cond-true (same_class itself x y) (y ∷ filter (same_class itself x) ys) (filter (same_class itself x) ys) with
          ∙ ap (λ l. y ∷ l) (copies x ys)
          ∙ ap (λ n. n ∷ replicate (sum_by (counted x) ys) x) (sym (same_class-true itself x y with))
          ∙ sym (ap (λ n. replicate n x) (sum_by-cons (counted x) y ys ∙ ap (λ n. n + sum_by (counted x) ys) (cond-true (same_class itself x y) 1 0 with) ∙ added-one (sum_by (counted x) ys)))
      | inr without ↦
          cond-false (same_class itself x y) (y ∷ filter (same_class itself x) ys) (filter (same_class itself x) ys) without
          ∙ copies x ys
          ∙ sym (ap (λ n. replicate n x) (sum_by-cons (counted x) y ys ∙ ap (λ n. n + sum_by (counted x) ys) (cond-false (same_class itself x y) 1 0 without) ∙ added-none (sum_by (counted x) ys)))
    ]

same-copies : (x : ℕ) (xs ys : List ℕ) → IsPermutation xs ys → filter (same_class itself x) ys ≡ filter (same_class itself x) xs
same-copies x xs ys moved = copies x ys ∙ ap (λ n. replicate n x) (sum_by-IsPermutation (counted x) xs ys moved) ∙ sym (copies x xs)

-- ---- entries and their places

least-map : (n : ℕ) (es : List Entry) → AreAtLeast place_in_order n es → AreAtLeast itself n (map place_in_order es)
least-map n [] h = tt
least-map n (e ∷ es) h = (h.0, least-map n es h.1)

rises-map : (es : List Entry) → Rises place_in_order es → Rises itself (map place_in_order es)
rises-map [] h = tt
rises-map (e ∷ es) h = (least-map (place_in_order e) es h.0, rises-map es h.1)

least-of-map : (n : ℕ) (es : List Entry) → AreAtLeast itself n (map place_in_order es) → AreAtLeast place_in_order n es
least-of-map n [] h = tt
least-of-map n (e ∷ es) h = (h.0, least-of-map n es h.1)

rises-of-map : (es : List Entry) → Rises itself (map place_in_order es) → Rises place_in_order es
rises-of-map [] h = tt
rises-of-map (e ∷ es) h = (least-of-map (place_in_order e) es h.0, rises-of-map es h.1)

number-of : (p : ℕ) (e : Entry) → of_number p (place_in_order e) ≡ is_of p e
number-of p e = ap (λ n. nat_eq n p) (mod-mul-add e.stamp.0 2048 e.proc.number (few-of e))

places-of-part : (p : ℕ) (es : List Entry) → filter (of_number p) (map place_in_order es) ≡ map place_in_order (filter (is_of p) es)
places-of-part p [] = refl
places-of-part p (e ∷ es) =
    elim (cases_Bool (is_of p e)) [
      | inl with ↦
          cond-true (of_number p (place_in_order e)) (place_in_order e ∷ filter (of_number p) (map place_in_order es)) (filter (of_number p) (map place_in_order es)) (number-of p e ∙ with)
          ∙ ap (λ l. place_in_order e ∷ l) (places-of-part p es)
          ∙ sym (ap (map place_in_order) (cond-true (is_of p e) (e ∷ filter (is_of p) es) (filter (is_of p) es) with))
      | inr without ↦
          cond-false (of_number p (place_in_order e)) (place_in_order e ∷ filter (of_number p) (map place_in_order es)) (filter (of_number p) (map place_in_order es)) (number-of p e ∙ without)
          ∙ places-of-part p es
          ∙ sym (ap (map place_in_order) (cond-false (is_of p e) (e ∷ filter (is_of p) es) (filter (is_of p) es) without))
    ]

sorted-numbers : (ns : List ℕ) → IsSorted nat_cmp ns → Rises itself ns
sorted-numbers ns sorted = rises_from_sort itself ns (IsNonDecreasingBy-from_sort itself ns sorted)

pub sorted-turns : (lists : List (List Entry)) (ns : List ℕ) → AreOwn 1 lists → ((p : ℕ) → IsRising (part_of_process p (entries_view (all_of lists)))) → IsPermutation (map place_in_order (all_of lists)) ns → IsSorted nat_cmp ns
    → AreTurns ns lists
sorted-turns lists ns own rise moved sorted p =
    let part = filter (is_of p) (all_of lists) in
    same_from_classes itself (filter (of_number p) ns) (map place_in_order part) (rises_kept itself (of_number p) ns (sorted-numbers ns sorted))
    (rises-map part (placed place_in_order same-place p part (are-of p (all_of lists)) (subst IsRising (part-kept p (all_of lists)) (rise p))))
    (λ x. filters-swap (same_class itself x) (of_number p) ns ∙ ap (filter (of_number p)) (same-copies x (map place_in_order (all_of lists)) ns moved) ∙ filters-swap (of_number p) (same_class itself x) (map place_in_order (all_of lists))
    ∙ ap (filter (same_class itself x)) (places-of-part p (all_of lists)))
    ∙ ap (map place_in_order) (part-own p lists own)

pub sorted-places-rise : (es : List Entry) (ns : List ℕ) → map place_in_order es ≡ ns → IsSorted nat_cmp ns → ((p : ℕ) → IsRising (part_of_process p (entries_view es))) → IsRising (entries_view es)
sorted-places-rise es ns are sorted rise = journal-rises es (are-few es) (rises-of-map es (subst (Rises itself) (sym are) (sorted-numbers ns sorted))) rise
