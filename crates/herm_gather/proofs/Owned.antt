-- Diaries of which each is of the process of its place: the part of a process is its diary.
use Rattle.std.proofs.Common.{◌≡◌, ◌≢◌, ℕ, zero, suc, ◌+◌, ◌<◌, List, [], ◌∷◌, ◌++◌, filter, get_or, refl, sym, ap, subst, ◌∙◌, arith, Vec, Global}
use Rattle.std.proofs.lemmas.Bool.{cond-true, cond-false}
use Rattle.std.proofs.lemmas.List.{append-nil, map-append}
use Rattle.std.proofs.lemmas.List.Elements.{filter-append}
use Rattle.herm_journal.specs.Journals.{part_of_process}
use Rattle.herm_events.specs.View.{entries_view}
use Rattle.herm_events.specs.declared.entry.Entry.{Entry}
use Rattle.herm_report.specs.Turns.{items_of, list_at}
use Rattle.herm_gather.specs.Diaries.{diaries_view, all_of, AreOfNumber, AreOwn}
use Rattle.herm_gather.proofs.Merged.{is_of, part-kept}
use Rattle.herm_gather.proofs.SameNumber.{same-true, other-false}

part-whole : (p : ℕ) (es : List Entry) → AreOfNumber p es → filter (is_of p) es ≡ es
part-whole p [] all = refl
part-whole p (e ∷ es) all = cond-true (is_of p e) (e ∷ filter (is_of p) es) (filter (is_of p) es) (same-true e.proc.number p all.0) ∙ ap (λ l. e ∷ l) (part-whole p es all.1)

part-none : (n p : ℕ) (es : List Entry) → n ≢ p → AreOfNumber n es → filter (is_of p) es ≡ []
part-none n p [] ne all = refl
part-none n p (e ∷ es) ne all =
    cond-false (is_of p e) (e ∷ filter (is_of p) es) (filter (is_of p) es) (other-false e.proc.number p (λ same. ne (sym all.0 ∙ same))) ∙ part-none n p es ne all.1

none-below : (n p : ℕ) (lists : List (List Entry)) → p < n → AreOwn n lists → filter (is_of p) (all_of lists) ≡ []
none-below n p [] less own = refl
none-below n p (es ∷ lists) less own =
    filter-append (is_of p) es (all_of lists) ∙ ap (λ l. l ++ filter (is_of p) (all_of lists)) (part-none n p es (λ same. omega (arith, same)) own.0)
    ∙ none-below (suc n) p lists (omega arith) own.1

part-at : (n i p : ℕ) (lists : List (List Entry)) → n + i ≡ p → AreOwn n lists → filter (is_of p) (all_of lists) ≡ get_or lists i []
part-at n i p [] is own = refl
part-at n zero p (es ∷ lists) is own =
    filter-append (is_of p) es (all_of lists)
    ∙ ap (λ l. l ++ filter (is_of p) (all_of lists)) (part-whole p es (subst (λ m. AreOfNumber m es) (omega (arith, is)) own.0))
    ∙ ap (λ l. es ++ l) (none-below (suc n) p lists (omega (arith, is)) own.1)
    ∙ append-nil es
part-at n (suc i) p (es ∷ lists) is own =
    filter-append (is_of p) es (all_of lists)
    ∙ ap (λ l. l ++ filter (is_of p) (all_of lists)) (part-none n p es (λ same. omega (arith, is, same)) own.0)
    ∙ part-at (suc n) i p lists (omega (arith, is)) own.1

pub part-own : (p : ℕ) (lists : List (List Entry)) → AreOwn 1 lists → filter (is_of p) (all_of lists) ≡ list_at lists p
part-own zero lists own = none-below 1 0 lists (omega arith) own
part-own (suc i) lists own = part-at 1 i (suc i) lists (omega arith) own

pub view-joined : (diaries : List (Vec Entry Global)) → diaries_view diaries ≡ entries_view (all_of (items_of diaries))
view-joined [] = refl
view-joined (d ∷ ds) = ap (λ l. entries_view d.items ++ l) (view-joined ds) ∙ sym (map-append _ d.items (all_of (items_of ds)))

pub part-diary : (p : ℕ) (diaries : List (Vec Entry Global)) → AreOwn 1 (items_of diaries) → part_of_process p (diaries_view diaries) ≡ entries_view (list_at (items_of diaries) p)
part-diary p diaries own =
    ap (part_of_process p) (view-joined diaries) ∙ part-kept p (all_of (items_of diaries)) ∙ ap entries_view (part-own p (items_of diaries) own)
