-- Counts that are cut where they are taken add up to the cut counts; and a run has one journal.
use Rattle.std.proofs.Common.{◌≡◌, ℕ, suc, ◌+◌, ◌*◌, ◌^◌, ◌<◌, ◌≤◌, min, List, [], ◌∷◌, length, Bool, true, false, Some, refl, sym, ap, subst, ◌∙◌, arith}
use Rattle.herm_model.specs.Lists.{total}
use Rattle.herm_model.specs.Values.{Name, Cell}
use Rattle.herm_journal.specs.Messages.{CellReply}
use Rattle.herm_journal.specs.PlaceStates.{Replies}
use Rattle.herm_journal.specs.Ports.{Port}
use Rattle.herm_journal.specs.Weights.{weigh_serials}
use Rattle.herm_journal.proofs.Rising.{one-journal}
use Rattle.herm_system.specs.Machines.{Machine}
use Rattle.herm_system.specs.Ledger.{made_by, held_by, finalised_by, queued_at, queued_for, made_in, held_in, queued_in, finalised_in}
use Rattle.herm_system.specs.Summary.{counts, cut, one}
use Rattle.herm_system.specs.Systems.{System, Run, run, start}
use Rattle.herm_runs.specs.laws.ProcessLaws.{KeepsNumbers}
use Rattle.herm_runs.proofs.RunsOrdered.{ordered-fits}
use Rattle.herm_waking.specs.AddedCounts.{made_of_process, held_of_process, finalised_of_process, added, added_counts}
use Rattle.herm_waking.specs.laws.ReportLaws.{CountsAreAdded, SumsAreCut, RunsHaveOneJournal}

pub sums-cut : SumsAreCut
sums-cut a b = omega arith

cut-again : (a : ℕ) → cut (cut a) ≡ cut a
cut-again a = omega arith

-- a sum whose parts are cut, cut at every step
pub added-total : {X : Type 0} (f : X → ℕ) (xs : List X) → added (λ x. cut (f x)) xs ≡ cut (total f xs)
added-total f [] = omega arith
added-total f (x ∷ xs) = ap (λ n. cut (cut (f x) + n)) (added-total f xs) ∙ sums-cut (f x) (total f xs)

-- each name weighs one
each-one : {N : Type 0} (name : ℕ → N) (w : N → ℕ) → ((n : N) → w n ≡ 1) → (s count : ℕ) → weigh_serials w name s count ≡ count
each-one name w ones s Rattle.std.proofs.Common.zero = refl
each-one name w ones s (suc count) = omega (arith, ones (name s), each-one name w ones (suc s) count)

total-one : (xs : List Name) → total one xs ≡ length xs
total-one [] = refl
total-one (x ∷ xs) = omega (arith, total-one xs)

same-total : {X : Type 0} (f g : X → ℕ) → ((x : X) → f x ≡ g x) → (xs : List X) → total f xs ≡ total g xs
same-total f g same [] = refl
same-total f g same (x ∷ xs) = omega (arith, same x, same-total f g same xs)

plus-cut : (a n m : ℕ) → n ≡ cut m → cut (a + n) ≡ cut (a + m)
plus-cut a n m e = omega (arith, e)

both-cut : (n m i j : ℕ) → n ≡ cut i → m ≡ cut j → cut (n + m) ≡ cut (i + j)
both-cut n m i j e f = omega (arith, e, f)

pub counts-added : {P : Type 0} (machine : Machine Name P) → CountsAreAdded machine
counts-added {P} machine s = all (added_counts machine s).made (added_counts machine s).held (added_counts machine s).queued (added_counts machine s).finalised made held queued finalised
  where
    all : (a b c d : ℕ) → a ≡ (counts machine s).made → b ≡ (counts machine s).held → c ≡ (counts machine s).queued → d ≡ (counts machine s).finalised
        → record (added_counts machine s) { made = a; held = b; queued = c; finalised = d } ≡ counts machine s
    all a b c d ea eb ec ed =
        ap (λ n. record (added_counts machine s) { made = n; held = b; queued = c; finalised = d }) ea
        ∙ ap (λ n. record (added_counts machine s) { made = (counts machine s).made; held = n; queued = c; finalised = d }) eb
        ∙ ap (λ n. record (added_counts machine s) { made = (counts machine s).made; held = (counts machine s).held; queued = n; finalised = d }) ec
        ∙ ap (λ n. record (added_counts machine s) { made = (counts machine s).made; held = (counts machine s).held; queued = (counts machine s).queued; finalised = n }) ed

    made : cut (5 + added (made_of_process machine) s.processes) ≡ cut (made_in one machine s)
    made =
        let five = each-one (Rattle.herm_system.specs.Systems.opening_name) one (λ n. refl) 0 5 in
        let serials = same-total (made_by one machine) machine.serial (λ x. each-one (λ i. (machine.number x, i)) one (λ n. refl) 0 (machine.serial x)) s.processes in
        plus-cut 5 (added (made_of_process machine) s.processes) (total machine.serial s.processes) (added-total machine.serial s.processes)
        ∙ ap cut (omega (arith, five, serials))

    held : cut (1 + added (held_of_process machine) s.processes) ≡ cut (held_in one machine s)
    held = plus-cut 1 (added (held_of_process machine) s.processes) (total (held_by one machine) s.processes) (added-total (held_by one machine) s.processes)

    queued : cut (added (λ (p : Port (Cell Name)). cut (queued_at one p)) s.ports + added (λ (rs : Replies (CellReply Name)). cut (queued_for one rs)) s.replies) ≡ cut (queued_in one s)
    queued = both-cut _ _ (total (queued_at one) s.ports) (total (queued_for one) s.replies) (added-total (queued_at one) s.ports) (added-total (queued_for one) s.replies)

    finalised : added (finalised_of_process machine) s.processes ≡ cut (finalised_in one machine s)
    finalised =
        added-total (λ x. length (machine.finalised x)) s.processes
        ∙ ap cut (same-total (λ x. length (machine.finalised x)) (finalised_by one machine) (λ x. sym (total-one (machine.finalised x))) s.processes)

pub one-run-journal : {P : Type 0} (machine : Machine Name P) → KeepsNumbers machine → RunsHaveOneJournal machine
one-run-journal machine keeps limits argument first events r main is =
    let fits = ordered-fits machine keeps limits argument first events r main is in
    record { fits = fits; one = λ journal rises same. one-journal journal _ rises fits.ordered (λ p. same p ∙ sym (fits.by_process p)) }
