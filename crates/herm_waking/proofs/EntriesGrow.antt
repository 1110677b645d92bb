-- One entry more, and what is not there yet.
use Rattle.std.proofs.Common.{◌≡◌, ◌⊎◌, inl, inr, ℕ, suc, List, [], ◌∷◌, ◌++◌, filter, Bool, true, false, cond, Option, Some, None, option_map, slice_get, slice_set, refl, sym, ap, subst, ◌∙◌}
use Rattle.std.specs.Prelude.{nat_eq, ◌||◌}
use Rattle.std.proofs.lemmas.Bool.{eqb-true}
use Rattle.herm_model.specs.Lists.{IsIn}
use Rattle.herm_model.specs.Values.{Name, Cell}
use Rattle.herm_model.proofs.Options.{some-injective, none-not_some, chain-some, map-some}
use Rattle.herm_journal.specs.Entries.{Place, port, reply_cell, book, same_place, Entry, recorded}
use Rattle.herm_journal.specs.Messages.{CellReply, CellAction}
use Rattle.herm_journal.specs.PlaceStates.{PlaceState, a_port, replies, a_book, after}
use Rattle.herm_journal.specs.Stamps.{last_stamp, is_maker_of, entry_behind}
use Rattle.herm_system.specs.Machines.{Machine}
use Rattle.herm_system.specs.Systems.{System, Moved, Event, steps, acts, Run, run, run_on, step, start, numbered_from_one, holding_at, set_holding, set_process, with_made, with_entry}
use Rattle.herm_runs.proofs.ActionParts.{action-parts, step-parts}
use Rattle.herm_runs.proofs.Events.{filter-kept, filter-passed}
use Rattle.herm_runs.proofs.Histories.{place-same, held-with_process}
use Rattle.herm_runs.proofs.Ordered.{in-more, last-more}
use Rattle.herm_runs.proofs.Stands.{set-absent_from_one, made-absent, unmoved-absent}
use Rattle.herm_waking.specs.laws.EntryLaws.{JournalsGrow, NothingIsRecordedYet}
use Rattle.herm_waking.proofs.OthersStand.{made-holding}

filter-more : {X : Type 0} (test : X → Bool) (xs : List X) (x : X) → filter test (xs ++ x ∷ []) ≡ cond (test x) (filter test xs ++ x ∷ []) (filter test xs)
filter-more test xs x = by (test x) refl
  where
    by : (b : Bool) → test x ≡ b → filter test (xs ++ x ∷ []) ≡ cond b (filter test xs ++ x ∷ []) (filter test xs)
    by true e = filter-kept test xs x e
    by false e = filter-passed test xs x e

pub journals-grow : JournalsGrow
journals-grow journal e = record {
  diaries = λ q. filter-more (λ (x : Entry). nat_eq x.process q) journal e;
  histories = λ place. filter-more (λ (x : Entry). same_place x.place place) journal e;
  process_clocks = λ q. last-more (λ x. nat_eq x.process q || is_maker_of q x.action) 0 journal e;
  place_clocks = λ place. last-more (λ x. same_place x.place place) 0 journal e;
}

map-none : {X Y : Type 0} (f : X → Y) (o : Option X) → option_map f o ≡ None → o ≡ None
map-none f None e = refl
map-none f (Some x) e = none-not_some (sym e)

-- what is not at a place behind a change was not there before
set-none : {P : Type 0} (place other : Place) (h : PlaceState (Cell Name) (CellReply Name)) (s : System P) → holding_at other (set_holding place h s) ≡ None → holding_at other s ≡ None
set-none (port n) (port m) (a_port p) s e = ap (option_map a_port) (set-absent_from_one s.ports (suc n) (suc m) p (map-none a_port (slice_get (slice_set s.ports n p) m) e))
set-none (reply_cell n) (reply_cell m) (replies rs) s e = ap (option_map replies) (set-absent_from_one s.replies n m rs (map-none replies (numbered_from_one m _) e))
set-none book book (a_book b) s e = none-not_some (sym e)
set-none (port n) (reply_cell m) (a_port p) s e = e
set-none (port n) book (a_port p) s e = e
set-none (reply_cell n) (port m) (replies rs) s e = e
set-none (reply_cell n) book (replies rs) s e = e
set-none book (port m) (a_book b) s e = e
set-none book (reply_cell m) (a_book b) s e = e
set-none place other h s e = e

made-none : {P : Type 0} (machine : Machine Name P) (x : P) (a : CellAction Name) (u t : System P) (other : Place) → with_made machine x a u ≡ Some t → holding_at other t ≡ None → holding_at other u ≡ None
made-none machine x a u t other makes none = by (holding_at other u) refl
  where
    by : (o : Option (PlaceState (Cell Name) (CellReply Name))) → holding_at other u ≡ o → o ≡ None
    by None at = refl
    by (Some h) at = none-not_some (sym none ∙ made-holding machine x a u t other h makes at)

-- processes and places stay there
step-none : {P : Type 0} (machine : Machine Name P) (e : Event) (s : System P) (m : Moved P) → step machine e s ≡ Some m
    → ((q : ℕ) → numbered_from_one q m.system.processes ≡ None → numbered_from_one q s.processes ≡ None) × ((place : Place) → holding_at place m.system ≡ None → holding_at place s ≡ None)
step-none {P} machine (steps p) s m e =
    let parts = step-parts machine p s m e in
    subst (λ (m : Moved P). ((q : ℕ) → numbered_from_one q m.system.processes ≡ None → numbered_from_one q s.processes ≡ None) × ((place : Place) → holding_at place m.system ≡ None → holding_at place s ≡ None)) parts.moved
    (λ q none. set-absent_from_one s.processes p q parts.left.0 none, λ place none. sym (held-with_process place p parts.left.0 s) ∙ none)
step-none {P} machine (acts p place) s m e =
    let parts = action-parts machine p place s m e in
    let k = after parts.did.0 parts.at.0 in
    let u = set_process p parts.left.0 (set_holding place k s) in
    subst (λ (m : Moved P). ((q : ℕ) → numbered_from_one q m.system.processes ≡ None → numbered_from_one q s.processes ≡ None) × ((place : Place) → holding_at place m.system ≡ None → holding_at place s ≡ None)) parts.moved (
      λ q none. unmoved-absent s place k p q parts.left.0 (made-absent machine parts.state parts.did.0 u parts.makes.0 q parts.makes.1 none),
      λ other none. set-none place other k s (sym (held-with_process other p parts.left.0 (set_holding place k s)) ∙ made-none machine parts.state parts.did.0 u parts.makes.0 other parts.makes.1 none),
    )

-- each entry's process and place are there
record AllThere {P : Type 0} (s : System P) (journal : List Entry) : Type 0 where
  processes : (f : Entry) → IsIn f journal → numbered_from_one f.process s.processes ≡ None → ⊥
  places : (f : Entry) → IsIn f journal → holding_at f.place s ≡ None → ⊥

step-there : {P : Type 0} (machine : Machine Name P) (e : Event) (s : System P) (journal : List Entry) (m : Moved P) → step machine e s ≡ Some m → AllThere s journal → AllThere m.system (with_entry journal e m.done)
step-there machine (steps p) s journal m e all =
    let none = step-none machine (steps p) s m e in record { processes = λ f h n. all.processes f h (none.0 f.process n); places = λ f h n. all.places f h (none.1 f.place n) }
step-there {P} machine (acts p place) s journal m e all =
    let parts = action-parts machine p place s m e in
    let none = step-none machine (acts p place) s m e in
    subst (λ o. AllThere m.system (with_entry journal (acts p place) o)) (ap (λ (m : Moved P). m.done) parts.moved)
    (record {
      processes = λ f h n. by-process parts.did.0 f (in-more f (new parts.did.0) journal h) (none.0 f.process n) parts.state parts.is;
      places = λ f h n. by-place parts.did.0 f (in-more f (new parts.did.0) journal h) (none.1 f.place n) parts.at.0 parts.at.1;
    })
  where
    new : CellAction Name → Entry
    new a = entry_behind journal p place (recorded a)

    by-process : (a : CellAction Name) (f : Entry) → IsIn f journal ⊎ (f ≡ new a) → numbered_from_one f.process s.processes ≡ None → (x : P) → numbered_from_one p s.processes ≡ Some x → ⊥
    by-process a f (inl h) none x is = all.processes f h none
    by-process a f (inr same) none x is = none-not_some (sym (ap (λ (f : Entry). numbered_from_one f.process s.processes) (sym same) ∙ none) ∙ is)

    by-place : (a : CellAction Name) (f : Entry) → IsIn f journal ⊎ (f ≡ new a) → holding_at f.place s ≡ None → (h : PlaceState (Cell Name) (CellReply Name)) → holding_at place s ≡ Some h → ⊥
    by-place a f (inl h) none x at = all.places f h none
    by-place a f (inr same) none x at = none-not_some (sym (ap (λ (f : Entry). holding_at f.place s) (sym same) ∙ none) ∙ at)

run-there : {P : Type 0} (machine : Machine Name P) (events : List Event) (r t : Run P) → run machine events r ≡ Some t → AllThere r.system r.journal → AllThere t.system t.journal
run-there machine [] r t e all = subst (λ (r : Run _). AllThere r.system r.journal) (some-injective e) all
run-there machine (x ∷ events) r t e all =
    let u = chain-some (run machine events) (run_on machine x r) t e in
    let m = map-some (λ (m : Moved _). record { system = m.system; journal = with_entry r.journal x m.done }) (step machine x r.system) u.0 u.1 in
    run-there machine events u.0 t u.2 (subst (λ (r : Run _). AllThere r.system r.journal) m.2 (step-there machine x r.system r.journal m.0 m.1 all))

-- entries of which none passes
none-pass : (test : Entry → Bool) (es : List Entry) → ((e : Entry) → IsIn e es → test e ≡ true → ⊥) → filter test es ≡ []
none-pass test [] none = refl
none-pass test (e ∷ es) none = by (test e) refl (none-pass test es (λ f h. none f (inr h)))
  where
    by : (b : Bool) → test e ≡ b → filter test es ≡ [] → cond b (e ∷ filter test es) (filter test es) ≡ []
    by true is rest = absurd (none e (inl refl) is)
    by false is rest = rest

none-last : (test : Entry → Bool) (s : ℕ) (es : List Entry) → ((e : Entry) → IsIn e es → test e ≡ true → ⊥) → last_stamp test s es ≡ s
none-last test s [] none = refl
none-last test s (e ∷ es) none = ap (λ i. last_stamp test i es) (by (test e) refl) ∙ none-last test s es (λ f h. none f (inr h))
  where
    by : (b : Bool) → test e ≡ b → cond b e.stamp s ≡ s
    by true is = absurd (none e (inl refl) is)
    by false is = refl

pub nothing-yet : {P : Type 0} (machine : Machine Name P) → NothingIsRecordedYet machine
nothing-yet machine limits argument events r is = (
  λ q none. none-pass (λ (e : Entry). nat_eq e.process q) r.journal (λ e h own. all.processes e h (ap (λ q. numbered_from_one q r.system.processes) (eqb-true e.process q own) ∙ none)),
  λ place none. (
    none-pass (λ (e : Entry). same_place e.place place) r.journal (λ e h own. all.places e h (ap (λ place. holding_at place r.system) (place-same e.place place own) ∙ none)),
    none-last (λ e. same_place e.place place) 0 r.journal (λ e h own. all.places e h (ap (λ place. holding_at place r.system) (place-same e.place place own) ∙ none)),
  ),
)
  where
    all : AllThere r.system r.journal
    all = run-there machine events (start machine limits argument) r is (record { processes = λ f h. absurd h; places = λ f h. absurd h })
