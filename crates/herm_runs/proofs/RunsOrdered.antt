-- The entries of a run, in order, fit its diaries and histories.
use Rattle.std.proofs.Common.{◌≡◌, ℕ, suc, ◌<◌, ◌≤◌, List, [], ◌∷◌, ◌++◌, Bool, true, false, cond, ◌&&◌, ◌||◌, ◌⊎◌, inl, inr, Some, None, length, refl, sym, ap, subst, ◌∙◌, arith, true≢false}
use Rattle.std.proofs.lemmas.Bool.{eqb-true, or_left}
use Rattle.std.specs.Prelude.{nat_eq, nat_lt}
use Rattle.herm_model.specs.Lists.{IsIn}
use Rattle.herm_model.proofs.Options.{some-injective, none-not_some, chain-some, map-some}
use Rattle.herm_journal.specs.Actions.{make_port, make_process, put, take, close, answer, hear}
use Rattle.herm_journal.specs.NextNumbers.{Book, Limits}
use Rattle.herm_journal.specs.PlaceStates.{after}
use Rattle.herm_journal.specs.Entries.{Text, Place, same_place, Entry, recorded}
use Rattle.herm_journal.specs.Journals.{IsJournalOf, part_of_process, part_of_place, ordered}
use Rattle.herm_journal.specs.Stamps.{clock_of_process, clock_of_place, is_maker_of, next_stamp, entry_behind}
use Rattle.herm_journal.specs.Messages.{CellAction}
use Rattle.herm_system.specs.Systems.{System, Moved, Event, steps, acts, Run, run, run_on, step, start, with_entry, set_process, set_holding, numbered_from_one, main_port}
use Rattle.herm_system.specs.Sound.{IsNumbered}
use Rattle.herm_journal.proofs.Rising.{same-true}
use Rattle.herm_runs.proofs.Numbered.{BookMoves, book-moves, process-counts, step-numbered, opening-numbered}
use Rattle.herm_runs.proofs.RoundsEnd.{get-past}
use Rattle.herm_runs.proofs.Histories.{place-same, place-itself}
use Rattle.herm_runs.proofs.Stands.{set-absent_from_one, made-absent, unmoved-absent}
use Rattle.herm_runs.proofs.Ordered.{Ascends, ascends-more, all-differ, last-more, in-more, kept-ordered, rising-ordered}
use Rattle.herm_system.specs.Machines.{Machine}
use Rattle.herm_model.specs.Values.{Name}
use Rattle.herm_runs.specs.laws.ProcessLaws.{KeepsNumbers}
use Rattle.herm_runs.proofs.ActionParts.{action-parts, step-parts}

-- along a run no entry is later than its clocks, and stamps rise by process and by place
record IsClocked {P : Type 0} (machine : Machine Name P) (s : System P) (journal : List Entry) : Type 0 where
  by_process : (f : Entry) → IsIn f journal → f.stamp ≤ clock_of_process f.process journal
  by_place : (f : Entry) → IsIn f journal → f.stamp ≤ clock_of_place f.place journal
  process_rises : (p : ℕ) → Ascends (λ (e : Entry). nat_eq e.process p) journal
  place_rises : (q : Place) → Ascends (λ (e : Entry). same_place e.place q) journal
  there : (f : Entry) → IsIn f journal → numbered_from_one f.process s.processes ≡ None → ⊥
  numbered : IsNumbered machine s

-- with one entry more
module _ {P : Type 0} (machine : Machine Name P) (s t : System P) (journal : List Entry) (e : Entry) (k : IsClocked machine s journal) (stamped : e.stamp ≡ next_stamp journal e.process e.place)
    (maker : (q : ℕ) → is_maker_of q e.action ≡ true → numbered_from_one q s.processes ≡ None) (here : numbered_from_one e.process t.processes ≡ None → ⊥)
    (before : (q : ℕ) → numbered_from_one q t.processes ≡ None → numbered_from_one q s.processes ≡ None) (numbered : IsNumbered machine t) where
  same-clock : (p : ℕ) → e.process ≡ p → clock_of_process p journal < e.stamp
  same-clock p same = omega (arith, stamped, ap (λ i. clock_of_process i journal) same)

  same-place_clock : (q : Place) → e.place ≡ q → clock_of_place q journal < e.stamp
  same-place_clock q same = omega (arith, stamped, ap (λ i. clock_of_place i journal) same)

  process-late : (f : Entry) → IsIn f journal → (a b : Bool) → nat_eq e.process f.process ≡ a → is_maker_of f.process e.action ≡ b → f.stamp ≤ cond (a || b) e.stamp (clock_of_process f.process journal)
  process-late f i true b same m = omega (arith, same-clock f.process (eqb-true e.process f.process same), k.by_process f i)
  process-late f i false true same m = absurd (k.there f i (maker f.process m))
  process-late f i false false same m = k.by_process f i

  place-late : (f : Entry) → IsIn f journal → (a : Bool) → same_place e.place f.place ≡ a → f.stamp ≤ cond a e.stamp (clock_of_place f.place journal)
  place-late f i true same = omega (arith, same-place_clock f.place (place-same e.place f.place same), k.by_place f i)
  place-late f i false same = k.by_place f i

  own-late : (q : ℕ) (c : ℕ) → (a : Bool) → a ≡ true → e.stamp ≤ cond a e.stamp c
  own-late q c true is = omega arith
  own-late q c false is = absurd (true≢false (sym is))

  all-process : (f : Entry) → IsIn f (journal ++ e ∷ []) → f.stamp ≤ clock_of_process f.process (journal ++ e ∷ [])
  all-process f i = subst (λ c. f.stamp ≤ c) (sym (last-more (λ x. nat_eq x.process f.process || is_maker_of f.process x.action) 0 journal e)) (by_place (in-more f e journal i))
    where
      by_place : IsIn f journal ⊎ (f ≡ e) → f.stamp ≤ cond (nat_eq e.process f.process || is_maker_of f.process e.action) e.stamp (clock_of_process f.process journal)
      by_place (inl j) = process-late f j (nat_eq e.process f.process) (is_maker_of f.process e.action) refl refl
      by_place (inr p) = subst (λ (g : Entry). g.stamp ≤ cond (nat_eq e.process g.process || is_maker_of g.process e.action) e.stamp (clock_of_process g.process journal)) (sym p)
          (own-late e.process (clock_of_process e.process journal) (nat_eq e.process e.process || is_maker_of e.process e.action) (or_left (nat_eq e.process e.process) (is_maker_of e.process e.action) (same-true e.process)))

  all-place : (f : Entry) → IsIn f (journal ++ e ∷ []) → f.stamp ≤ clock_of_place f.place (journal ++ e ∷ [])
  all-place f i = subst (λ c. f.stamp ≤ c) (sym (last-more (λ x. same_place x.place f.place) 0 journal e)) (by_place (in-more f e journal i))
    where
      by_place : IsIn f journal ⊎ (f ≡ e) → f.stamp ≤ cond (same_place e.place f.place) e.stamp (clock_of_place f.place journal)
      by_place (inl j) = place-late f j (same_place e.place f.place) refl
      by_place (inr p) = subst (λ (g : Entry). g.stamp ≤ cond (same_place e.place g.place) e.stamp (clock_of_place g.place journal)) (sym p)
          (own-late e.process (clock_of_place e.place journal) (same_place e.place e.place) (place-itself e.place))

  clocked-more : IsClocked machine t (journal ++ e ∷ [])
  clocked-more = record {
    by_process = all-process;
    by_place = all-place;
    process_rises = λ p. ascends-more (λ (x : Entry). nat_eq x.process p) journal e (k.process_rises p)
        (λ own f i same. omega (arith, k.by_process f i, same-clock f.process (eqb-true e.process p own ∙ sym (eqb-true f.process p same))));
    place_rises = λ q. ascends-more (λ (x : Entry). same_place x.place q) journal e (k.place_rises q)
        (λ own f i same. omega (arith, k.by_place f i, same-place_clock f.place (place-same e.place q own ∙ sym (place-same f.place q same))));
    there = λ f i none. is_there f (in-more f e journal i) none;
    numbered = numbered;
  }
    where
      is_there : (f : Entry) → IsIn f journal ⊎ (f ≡ e) → numbered_from_one f.process t.processes ≡ None → ⊥
      is_there f (inl j) none = k.there f j (before f.process none)
      is_there f (inr p) none = here (ap (λ (g : Entry). numbered_from_one g.process t.processes) (sym p) ∙ none)

-- a process that an action makes was not there
pub maker-absent : {P : Type 0} (machine : Machine Name P) (s : System P) (a : CellAction Name) (c : Book) (q : ℕ) → IsNumbered machine s → BookMoves a s.book c → is_maker_of q (recorded a) ≡ true → numbered_from_one q s.processes ≡ None
maker-absent machine s (make_process code (Some made)) c q k moves is =
    let counts = process-counts s.book (nat_lt s.book.processes s.book.limits.processes && nat_lt s.book.ports s.book.limits.ports) made moves.0 in
    let next : q ≡ suc (length s.processes) = sym (eqb-true made.0 q is) ∙ counts.0 ∙ ap suc (sym k.book.0) in
    ap (λ i. numbered_from_one i s.processes) next ∙ get-past s.processes (length s.processes) (omega arith)
maker-absent machine s (make_process code None) c q k moves is = absurd (true≢false (sym is))
maker-absent machine s (make_port made) c q k moves is = absurd (true≢false (sym is))
maker-absent machine s (put number m) c q k moves is = absurd (true≢false (sym is))
maker-absent machine s (take number m) c q k moves is = absurd (true≢false (sym is))
maker-absent machine s (close count left) c q k moves is = absurd (true≢false (sym is))
maker-absent machine s (answer call r) c q k moves is = absurd (true≢false (sym is))
maker-absent machine s (hear call r) c q k moves is = absurd (true≢false (sym is))

step-clocked : {P : Type 0} (machine : Machine Name P) (keeps : KeepsNumbers machine) (e : Event) (s : System P) (m : Moved P) (journal : List Entry) → step machine e s ≡ Some m → IsClocked machine s journal → IsClocked machine m.system (with_entry journal e m.done)
step-clocked machine keeps (steps p) s m journal is k =
    let parts = step-parts machine p s m is in
    let now : IsNumbered machine (set_process p parts.left.0 s) = subst (λ (m : Moved _). IsNumbered machine m.system) (sym parts.moved) (step-numbered machine keeps (steps p) s m is k.numbered) in
    subst (λ (m : Moved _). IsClocked machine m.system (with_entry journal (steps p) m.done)) parts.moved (record {
      by_process = k.by_process;
      by_place = k.by_place;
      process_rises = k.process_rises;
      place_rises = k.place_rises;
      there = λ f i none. k.there f i (set-absent_from_one s.processes p f.process parts.left.0 none);
      numbered = now;
    })
step-clocked machine keeps (acts p place) s m journal is k =
    let parts = action-parts machine p place s m is in
    let u = set_process p parts.left.0 (set_holding place (after parts.did.0 parts.at.0) s) in
    let now : IsNumbered machine parts.makes.0 = subst (λ (m : Moved _). IsNumbered machine m.system) (sym parts.moved) (step-numbered machine keeps (acts p place) s m is k.numbered) in
    let moves = book-moves parts.want.0 place s parts.at.0 parts.did.0 parts.at.1 parts.did.1 in
    let before : (q : ℕ) → numbered_from_one q parts.makes.0.processes ≡ None → numbered_from_one q s.processes ≡ None =
    λ q none. unmoved-absent s place (after parts.did.0 parts.at.0) p q parts.left.0 (made-absent machine parts.state parts.did.0 u parts.makes.0 q parts.makes.1 none) in
    subst (λ (m : Moved _). IsClocked machine m.system (with_entry journal (acts p place) m.done)) parts.moved
    (clocked-more machine s parts.makes.0 journal (entry_behind journal p place (recorded parts.did.0)) k refl
    (λ q made. maker-absent machine s parts.did.0 (set_holding place (after parts.did.0 parts.at.0) s).book q k.numbered moves made)
    (λ none. none-not_some (sym (before p none) ∙ parts.is)) before now)

run-clocked : {P : Type 0} (machine : Machine Name P) (keeps : KeepsNumbers machine) (events : List Event) (r t : Run P) → run machine events r ≡ Some t → IsClocked machine r.system r.journal → IsClocked machine t.system t.journal
run-clocked machine keeps [] r t is k = subst (λ (x : Run _). IsClocked machine x.system x.journal) (some-injective is) k
run-clocked machine keeps (e ∷ events) r t is k =
    let b = chain-some (run machine events) (run_on machine e r) t is in
    let m = map-some (λ (m : Moved _). record { system = m.system; journal = with_entry r.journal e m.done }) (step machine e r.system) b.0 b.1 in
    run-clocked machine keeps events b.0 t b.2 (subst (λ (x : Run _). IsClocked machine x.system x.journal) m.2 (step-clocked machine keeps e r.system m.0 r.journal m.1 k))

pub ordered-fits : {P : Type 0} (machine : Machine Name P) (keeps : KeepsNumbers machine) (limits : Limits) (argument : Text) (first : P) (events : List Event) (r : Run P) → machine.begin machine.main 1 main_port ≡ Some first →
    run machine events (start machine limits argument) ≡ Some r → IsJournalOf (ordered r.journal) (λ p. part_of_process p r.journal) (λ s. part_of_place s r.journal)
ordered-fits machine keeps limits argument first events r is runs =
    let k = run-clocked machine keeps events (start machine limits argument) r runs (record {
      by_process = λ f i. absurd i;
      by_place = λ f i. absurd i;
      process_rises = λ p. tt;
      place_rises = λ q. tt;
      there = λ f i. absurd i;
      numbered = opening-numbered machine keeps limits argument first is;
    }) in
    record {
      ordered = rising-ordered r.journal (all-differ r.journal k.process_rises);
      by_process = λ p. kept-ordered (λ (e : Entry). nat_eq e.process p) r.journal (k.process_rises p);
      by_place = λ s. kept-ordered (λ (e : Entry). same_place e.place s) r.journal (k.place_rises s);
    }
