-- The part of a run's journal at a place is a legal history, and tells what the place holds.
use Rattle.std.proofs.Common.{◌≡◌, ℕ, zero, suc, max, ◌<◌, ◌≤◌, List, [], ◌∷◌, ◌++◌, Bool, true, false, cond, ◌⊎◌, inl, inr, Some, None, option_map, slice_get, slice_set, length, refl, sym, ap, subst, ◌∙◌, arith, true≢false}
use Rattle.std.proofs.lemmas.Bool.{eqb-true}
use Rattle.std.specs.Prelude.{nat_eq}
use Rattle.std.proofs.lemmas.Bool.Decides.{nat_tests}
use Rattle.herm_model.specs.Values.{Cell, Name}
use Rattle.herm_model.specs.ValueTexts.{text_of}
use Rattle.herm_model.proofs.Options.{some-injective, none-not_some, chain-some, map-some}
use Rattle.herm_journal.specs.Actions.{make_port, make_process, put, take, close, answer, hear}
use Rattle.herm_journal.specs.NextNumbers.{Limits}
use Rattle.herm_journal.specs.Ports.{empty_port, port_with}
use Rattle.herm_journal.specs.PlaceStates.{PlaceState, a_port, replies, a_book, IsEnabled, after}
use Rattle.herm_journal.specs.Entries.{Text, Place, port, reply_cell, book, same_place, Entry, map_reply, texts_of, recorded, recorded_state}
use Rattle.herm_journal.specs.Journals.{part_of_place}
use Rattle.herm_journal.specs.Histories.{first_recorded_state, Replayed, at_start, after_entry, replay, IsLegal}
use Rattle.herm_journal.specs.Stamps.{last_stamp, clock_of_place, clock_of_process, entry_behind}
use Rattle.herm_journal.proofs.Rising.{same-true}
use Rattle.herm_journal.specs.Messages.{CellReply, CellAction}
use Rattle.herm_runs.proofs.Numbered.{more-length, lengths-stay}
use Rattle.herm_runs.proofs.Events.{filter-kept, filter-passed, done-fits, fits-map, after-map}
use Rattle.herm_runs.proofs.SystemLedger.{port-stays, replies-stay, book-stays}
use Rattle.herm_system.specs.Systems.{System, Moved, Event, steps, acts, Run, run, run_on, step, start, opening, first_message, holding_at, set_holding, numbered_from_one, set_from_one, with_made, set_process, with_entry, local_event, action_event}
use Rattle.herm_system.specs.Machines.{Machine, inport_of}
use Rattle.herm_runs.proofs.ActionParts.{action-parts, step-parts}

not-one : (n : ℕ) → 2 ≤ n → nat_eq n 1 ≡ false
not-one n two = grind (arith, nat_tests)

other-suc : (i j : ℕ) → nat_eq (suc i) (suc j) ≡ false → nat_eq i j ≡ false
other-suc i j e = grind (arith, nat_tests)

-- the test of places is equality
pub place-same : (s t : Place) → same_place s t ≡ true → s ≡ t
place-same (port m) (port n) e = ap port (eqb-true m n e)
place-same (reply_cell m) (reply_cell n) e = ap reply_cell (eqb-true m n e)
place-same book book e = refl
place-same (port m) (reply_cell n) e = absurd (true≢false (sym e))
place-same (port m) book e = absurd (true≢false (sym e))
place-same (reply_cell m) (port n) e = absurd (true≢false (sym e))
place-same (reply_cell m) book e = absurd (true≢false (sym e))
place-same book (port n) e = absurd (true≢false (sym e))
place-same book (reply_cell n) e = absurd (true≢false (sym e))

pub place-itself : (q : Place) → same_place q q ≡ true
place-itself (port n) = same-true n
place-itself (reply_cell n) = same-true n
place-itself book = refl

-- parts and replays with one entry more
part-kept : (s : Place) (journal : List Entry) (e : Entry) → same_place e.place s ≡ true → part_of_place s (journal ++ e ∷ []) ≡ part_of_place s journal ++ e ∷ []
part-kept s journal e is = filter-kept (λ (x : Entry). same_place x.place s) journal e is

part-passed : (s : Place) (journal : List Entry) (e : Entry) → same_place e.place s ≡ false → part_of_place s (journal ++ e ∷ []) ≡ part_of_place s journal
part-passed s journal e is = filter-passed (λ (x : Entry). same_place x.place s) journal e is

replay-more : (es : List Entry) (e : Entry) (r : Replayed) → replay (es ++ e ∷ []) r ≡ after_entry e (replay es r)
replay-more [] e r = refl
replay-more (x ∷ es) e r = replay-more es e (after_entry x r)

legal-more : (es : List Entry) (e : Entry) (r : Replayed) → IsLegal es r → IsEnabled (replay es r).holding e.action → (replay es r).clock < e.stamp → IsLegal (es ++ e ∷ []) r
legal-more [] e r l fits later = (fits, later, tt)
legal-more (x ∷ es) e r l fits later = (l.0, l.1, legal-more es e (after_entry x r) l.2 fits later)

-- the clock of a place that is replayed is the clock that the journal gives
clock-from : (s : Place) (journal : List Entry) (r : Replayed) → (replay (part_of_place s journal) r).clock ≡ last_stamp (λ e. same_place e.place s) r.clock journal
clock-from s [] r = refl
clock-from s (x ∷ journal) r = by_test (same_place x.place s) (clock-from s journal r) (clock-from s journal (after_entry x r))
  where
    by_test : (b : Bool) → (replay (part_of_place s journal) r).clock ≡ last_stamp (λ e. same_place e.place s) r.clock journal →
        (replay (part_of_place s journal) (after_entry x r)).clock ≡ last_stamp (λ e. same_place e.place s) x.stamp journal →
        (replay (cond b (x ∷ part_of_place s journal) (part_of_place s journal)) r).clock ≡ last_stamp (λ e. same_place e.place s) (cond b x.stamp r.clock) journal
    by_test true h k = k
    by_test false h k = h

-- the stamp of a next entry at a place is later than the place's clock
is-later : (c d : ℕ) → d < suc (max c d)
is-later c d = omega arith

-- what is at a place of the system
get-set : {X : Type 0} (xs : List X) (i : ℕ) (x y : X) → slice_get xs i ≡ Some x → slice_get (slice_set xs i y) i ≡ Some y
get-set [] i x y e = none-not_some e
get-set (z ∷ xs) zero x y e = refl
get-set (z ∷ xs) (suc i) x y e = get-set xs i x y e

pub get-other : {X : Type 0} (xs : List X) (i j : ℕ) (y : X) → nat_eq i j ≡ false → slice_get (slice_set xs i y) j ≡ slice_get xs j
get-other [] i j y e = refl
get-other (z ∷ xs) zero zero y e = absurd (true≢false e)
get-other (z ∷ xs) zero (suc j) y e = refl
get-other (z ∷ xs) (suc i) zero y e = refl
get-other (z ∷ xs) (suc i) (suc j) y e = get-other xs i j y (other-suc i j e)

pub get-set_from_one : {X : Type 0} (xs : List X) (p : ℕ) (x y : X) → numbered_from_one p xs ≡ Some x → numbered_from_one p (set_from_one p y xs) ≡ Some y
get-set_from_one xs zero x y e = none-not_some e
get-set_from_one xs (suc i) x y e = get-set xs i x y e

pub get-other_from_one : {X : Type 0} (xs : List X) (p q : ℕ) (y : X) → nat_eq p q ≡ false → numbered_from_one q (set_from_one p y xs) ≡ numbered_from_one q xs
get-other_from_one xs zero q y e = refl
get-other_from_one xs (suc p) zero y e = refl
get-other_from_one xs (suc p) (suc q) y e = get-other xs p q y (other-suc p q e)

held-there : {P : Type 0} → (place : Place) (s : System P) (h : PlaceState (Cell Name) (CellReply Name)) (a : CellAction Name) → holding_at place s ≡ Some h → holding_at place (set_holding place (after a h) s) ≡ Some (after a h)
held-there (port n) s h a e =
    let m = map-some a_port (slice_get s.ports n) h e in
    let k = port-stays a m.0 in
    subst (λ x. holding_at (port n) (set_holding (port n) (after a x) s) ≡ Some (after a x)) m.2
    (subst (λ x. holding_at (port n) (set_holding (port n) x s) ≡ Some x) (sym k.1) (ap (option_map a_port) (get-set s.ports n m.0 k.0 m.1)))
held-there (reply_cell p) s h a e =
    let m = map-some replies (numbered_from_one p s.replies) h e in
    let k = replies-stay a m.0 in
    subst (λ x. holding_at (reply_cell p) (set_holding (reply_cell p) (after a x) s) ≡ Some (after a x)) m.2
    (subst (λ x. holding_at (reply_cell p) (set_holding (reply_cell p) x s) ≡ Some x) (sym k.1) (ap (option_map replies) (get-set_from_one s.replies p m.0 k.0 m.1)))
held-there book s h a e =
    let k = book-stays a s.book in
    subst (λ x. holding_at book (set_holding book (after a x) s) ≡ Some (after a x)) (some-injective e) (subst (λ x. holding_at book (set_holding book x s) ≡ Some x) (sym k.1) refl)

pub held-elsewhere : {P : Type 0} → (place q : Place) (k : PlaceState (Cell Name) (CellReply Name)) (s : System P) → same_place place q ≡ false → holding_at q (set_holding place k s) ≡ holding_at q s
held-elsewhere (port n) (port m) (a_port p) s e = ap (option_map a_port) (get-other s.ports n m p e)
held-elsewhere (reply_cell p) (reply_cell q) (replies rs) s e = ap (option_map replies) (get-other_from_one s.replies p q rs e)
held-elsewhere book book (a_book b) s e = absurd (true≢false e)
held-elsewhere (port n) (reply_cell m) (a_port p) s e = refl
held-elsewhere (port n) book (a_port p) s e = refl
held-elsewhere (reply_cell p) (port m) (replies rs) s e = refl
held-elsewhere (reply_cell p) book (replies rs) s e = refl
held-elsewhere book (port m) (a_book b) s e = refl
held-elsewhere book (reply_cell m) (a_book b) s e = refl
held-elsewhere place q k s e = refl

pub held-with_process : {P : Type 0} → (q : Place) (p : ℕ) (y : P) (s : System P) → holding_at q (set_process p y s) ≡ holding_at q s
held-with_process (port n) p y s = refl
held-with_process (reply_cell m) p y s = refl
held-with_process book p y s = refl

-- what is at a place once something was made: the same, or the place is new and as it is at the start
abbrev Appended : {X : Type 0} → List X → X → ℕ → Type 0
Appended xs y n = (slice_get (xs ++ y ∷ []) n ≡ slice_get xs n) ⊎ ((slice_get xs n ≡ None) × (slice_get (xs ++ y ∷ []) n ≡ Some y) × (n ≡ length xs))

next-appended : {X : Type 0} (x : X) (xs : List X) (y : X) (n : ℕ) → Appended xs y n → Appended (x ∷ xs) y (suc n)
next-appended x xs y n (inl e) = inl e
next-appended x xs y n (inr e) = inr (e.0, e.1, omega (arith, e.2))

appended : {X : Type 0} (xs : List X) (y : X) (n : ℕ) → Appended xs y n
appended [] y zero = inr (refl, refl, refl)
appended [] y (suc n) = inl refl
appended (x ∷ xs) y zero = inl refl
appended (x ∷ xs) y (suc n) = next-appended x xs y n (appended xs y n)

module _ {P : Type 0} (limits : Limits) (message : Text) where
  abbrev Kept : Place → System P → System P → Type 0
  Kept q s t = (holding_at q t ≡ holding_at q s) ⊎ ((holding_at q s ≡ None) × ((k : PlaceState (Cell Name) (CellReply Name)) × (holding_at q t ≡ Some k) × (first_recorded_state limits message q ≡ recorded_state k)))

  new-port : (s : System P) (n : ℕ) → 2 ≤ length s.ports → Appended s.ports empty_port n → (t : System P) → t.ports ≡ s.ports ++ empty_port ∷ [] → Kept (port n) s t
  new-port s n two (inl e) t is = inl (ap (λ ps. option_map a_port (slice_get ps n)) is ∙ ap (option_map a_port) e)
  new-port s n two (inr e) t is =
      inr (ap (option_map a_port) e.0, (a_port empty_port, ap (λ ps. option_map a_port (slice_get ps n)) is ∙ ap (option_map a_port) e.1, ap (λ b. a_port (cond b (port_with message) empty_port)) (not-one n (omega (arith, two, e.2)))))

  new-cell : (s : System P) (i : ℕ) → Appended s.replies [] i → (t : System P) → t.replies ≡ s.replies ++ [] ∷ [] → Kept (reply_cell (suc i)) s t
  new-cell s i (inl e) t is = inl (ap (λ rs. option_map replies (slice_get rs i)) is ∙ ap (option_map replies) e)
  new-cell s i (inr e) t is = inr (ap (option_map replies) e.0, (replies [], ap (λ rs. option_map replies (slice_get rs i)) is ∙ ap (option_map replies) e.1, refl))

  made-kept : (q : Place) (machine : Machine Name P) (maker : P) (a : CellAction Name) (s t : System P) → 2 ≤ length s.ports → with_made machine maker a s ≡ Some t → Kept q s t
  made-kept (port n) machine maker (make_port (Some m)) s t two e = new-port s n two (appended s.ports empty_port n) t (sym (ap (λ (x : System _). x.ports) (some-injective e)))
  made-kept (reply_cell p) machine maker (make_port (Some m)) s t two e = inl (sym (ap (λ (x : System _). option_map replies (numbered_from_one p x.replies)) (some-injective e)))
  made-kept book machine maker (make_port (Some m)) s t two e = inl (sym (ap (λ (x : System _). Some (a_book x.book)) (some-injective e)))
  made-kept (port n) machine maker (make_process code (Some made)) s t two e =
      let m = map-some _ (machine.begin code made.0 (inport_of machine made.1 maker)) t e in new-port s n two (appended s.ports empty_port n) t (sym (ap (λ (x : System _). x.ports) m.2))
  made-kept (reply_cell zero) machine maker (make_process code (Some made)) s t two e = inl refl
  made-kept (reply_cell (suc i)) machine maker (make_process code (Some made)) s t two e =
      let m = map-some _ (machine.begin code made.0 (inport_of machine made.1 maker)) t e in new-cell s i (appended s.replies [] i) t (sym (ap (λ (x : System _). x.replies) m.2))
  made-kept book machine maker (make_process code (Some made)) s t two e =
      let m = map-some _ (machine.begin code made.0 (inport_of machine made.1 maker)) t e in inl (sym (ap (λ (x : System _). Some (a_book x.book)) m.2))
  made-kept q machine maker (make_port None) s t two e = inl (sym (ap (holding_at q) (some-injective e)))
  made-kept q machine maker (make_process code None) s t two e = inl (sym (ap (holding_at q) (some-injective e)))
  made-kept q machine maker (put number m) s t two e = inl (sym (ap (holding_at q) (some-injective e)))
  made-kept q machine maker (take number m) s t two e = inl (sym (ap (holding_at q) (some-injective e)))
  made-kept q machine maker (close count left) s t two e = inl (sym (ap (holding_at q) (some-injective e)))
  made-kept q machine maker (answer call r) s t two e = inl (sym (ap (holding_at q) (some-injective e)))
  made-kept q machine maker (hear call r) s t two e = inl (sym (ap (holding_at q) (some-injective e)))

  -- every place is told by its part of the journal; a place that is not there has no entries
  record AreTold (s : System P) (journal : List Entry) : Type 0 where
    told_by : (q : Place) (h : PlaceState (Cell Name) (CellReply Name)) → holding_at q s ≡ Some h →
        IsLegal (part_of_place q journal) (at_start (first_recorded_state limits message q)) × ((replay (part_of_place q journal) (at_start (first_recorded_state limits message q))).holding ≡ recorded_state h)
    absent : (q : Place) → holding_at q s ≡ None → part_of_place q journal ≡ []
    two : 2 ≤ length s.ports

  -- a place that is as before
  same-told : (s t : System P) (journal : List Entry) (q : Place) (h : PlaceState (Cell Name) (CellReply Name)) → AreTold s journal → Kept q s t → holding_at q t ≡ Some h →
      IsLegal (part_of_place q journal) (at_start (first_recorded_state limits message q)) × ((replay (part_of_place q journal) (at_start (first_recorded_state limits message q))).holding ≡ recorded_state h)
  same-told s t journal q h k (inl e) at = k.told_by q h (sym e ∙ at)
  same-told s t journal q h k (inr e) at =
      let none = k.absent q e.0 in
      let is = some-injective (sym e.1.1 ∙ at) in
      subst (λ es. IsLegal es (at_start (first_recorded_state limits message q)) × ((replay es (at_start (first_recorded_state limits message q))).holding ≡ recorded_state h)) (sym none) (tt, e.1.2 ∙ ap recorded_state is)

  same-absent : (s t : System P) (journal : List Entry) (q : Place) → AreTold s journal → Kept q s t → holding_at q t ≡ None → part_of_place q journal ≡ []
  same-absent s t journal q k (inl e) at = k.absent q (sym e ∙ at)
  same-absent s t journal q k (inr e) at = none-not_some (sym at ∙ e.1.1)

  -- the place of an action
  more-told : (s : System P) (journal : List Entry) (q : Place) (p : ℕ) (h : PlaceState (Cell Name) (CellReply Name)) (a : CellAction Name) → AreTold s journal → holding_at q s ≡ Some h → IsEnabled h a →
      IsLegal (part_of_place q journal ++ entry_behind journal p q (recorded a) ∷ []) (at_start (first_recorded_state limits message q))
      × ((replay (part_of_place q journal ++ entry_behind journal p q (recorded a) ∷ []) (at_start (first_recorded_state limits message q))).holding ≡ recorded_state (after a h))
  more-told s journal q p h a k at fits =
      let from = at_start (first_recorded_state limits message q) in
      let es = part_of_place q journal in
      let e = entry_behind journal p q (recorded a) in
      let before = k.told_by q h at in
      let fit : IsEnabled (replay es from).holding (recorded a) = subst (λ x. IsEnabled x (recorded a)) (sym before.1) (fits-map text_of (map_reply texts_of) h a fits) in
      let clock = clock-from q journal from in
      let later : (replay es from).clock < e.stamp = omega (arith, clock, is-later (clock_of_process p journal) (clock_of_place q journal)) in (
        legal-more es e from before.0 fit later,
        ap (λ (r : Replayed). r.holding) (replay-more es e from) ∙ ap (after (recorded a)) before.1 ∙ sym (after-map text_of (map_reply texts_of) h a),
      )

  -- behind an action at a place
  module _ (s t : System P) (journal : List Entry) (place : Place) (p : ℕ) (h : PlaceState (Cell Name) (CellReply Name)) (a : CellAction Name)
      (k : AreTold s journal) (at : holding_at place s ≡ Some h) (fits : IsEnabled h a)
      (there : (q : Place) → same_place place q ≡ false → Kept q s t) (here : holding_at place t ≡ Some (after a h)) where
    abbrev AllTold : List Entry → Place → PlaceState (Cell Name) (CellReply Name) → Type 0
    AllTold es q h' = IsLegal es (at_start (first_recorded_state limits message q)) × ((replay es (at_start (first_recorded_state limits message q))).holding ≡ recorded_state h')

    action-told : (q : Place) (h' : PlaceState (Cell Name) (CellReply Name)) → holding_at q t ≡ Some h' → AllTold (part_of_place q (journal ++ entry_behind journal p place (recorded a) ∷ [])) q h'
    action-told q h' found = by_test (same_place place q) refl
      where
        by_test : (b : Bool) → same_place place q ≡ b → AllTold (part_of_place q (journal ++ entry_behind journal p place (recorded a) ∷ [])) q h'
        by_test false e = subst (λ es. AllTold es q h') (sym (part-passed q journal (entry_behind journal p place (recorded a)) e)) (same-told s t journal q h' k (there q e) found)
        by_test true e =
            subst (λ es. AllTold es q h') (sym (part-kept q journal (entry_behind journal p place (recorded a)) e))
            (subst (λ x. AllTold (part_of_place x journal ++ entry_behind journal p place (recorded a) ∷ []) x h') (place-same place q e)
            (subst (AllTold (part_of_place place journal ++ entry_behind journal p place (recorded a) ∷ []) place)
            (some-injective (sym here ∙ ap (λ x. holding_at x t) (place-same place q e) ∙ found)) (more-told s journal place p h a k at fits)))

    action-absent : (q : Place) → holding_at q t ≡ None → part_of_place q (journal ++ entry_behind journal p place (recorded a) ∷ []) ≡ []
    action-absent q none = by_test (same_place place q) refl
      where
        by_test : (b : Bool) → same_place place q ≡ b → part_of_place q (journal ++ entry_behind journal p place (recorded a) ∷ []) ≡ []
        by_test false e = part-passed q journal (entry_behind journal p place (recorded a)) e ∙ same-absent s t journal q k (there q e) none
        by_test true e = none-not_some (sym none ∙ sym (ap (λ x. holding_at x t) (place-same place q e)) ∙ here)

  made-ports : (machine : Machine Name P) (maker : P) (a : CellAction Name) (s t : System P) → with_made machine maker a s ≡ Some t → 2 ≤ length s.ports → 2 ≤ length t.ports
  made-ports machine maker (make_port (Some m)) s t e two = subst (λ (x : System _). 2 ≤ length x.ports) (some-injective e) (omega (arith, more-length s.ports empty_port, two))
  made-ports machine maker (make_process code (Some made)) s t e two =
      let m = map-some _ (machine.begin code made.0 (inport_of machine made.1 maker)) t e in subst (λ (x : System _). 2 ≤ length x.ports) m.2 (omega (arith, more-length s.ports empty_port, two))
  made-ports machine maker a s t e two = subst (λ (x : System _). 2 ≤ length x.ports) (some-injective e) two

  kept-through : (q : Place) (s u t : System P) → holding_at q u ≡ holding_at q s → Kept q u t → Kept q s t
  kept-through q s u t same (inl e) = inl (e ∙ same)
  kept-through q s u t same (inr e) = inr (sym same ∙ e.0, e.1)

  kept-here : (q : Place) (u t : System P) (h : PlaceState (Cell Name) (CellReply Name)) → holding_at q u ≡ Some h → Kept q u t → holding_at q t ≡ Some h
  kept-here q u t h is (inl e) = e ∙ is
  kept-here q u t h is (inr e) = none-not_some (sym e.0 ∙ is)

  moved-ports : (p : ℕ) (y : P) (place : Place) (h : PlaceState (Cell Name) (CellReply Name)) (s : System P) → 2 ≤ length s.ports → 2 ≤ length (set_process p y (set_holding place h s)).ports
  moved-ports p y place h s two = omega (arith, (lengths-stay place h s).1, two)

  local-told : (machine : Machine Name P) (p : ℕ) (s : System P) (m : Moved P) (journal : List Entry) → local_event machine p s ≡ Some m → AreTold s journal → AreTold m.system (with_entry journal (steps p) m.done)
  local-told machine p s m journal e k =
      let parts = step-parts machine p s m e in
      subst (λ (m : Moved _). AreTold m.system (with_entry journal (steps p) m.done)) parts.moved (record {
        told_by = λ q h at. k.told_by q h (sym (held-with_process q p parts.left.0 s) ∙ at);
        absent = λ q at. k.absent q (sym (held-with_process q p parts.left.0 s) ∙ at);
        two = k.two;
      })

  event-told : (machine : Machine Name P) (p : ℕ) (place : Place) (s : System P) (m : Moved P) (journal : List Entry) → action_event machine p place s ≡ Some m → AreTold s journal → AreTold m.system (with_entry journal (acts p place) m.done)
  event-told machine p place s m journal e k =
      let parts = action-parts machine p place s m e in
      let u = set_process p parts.left.0 (set_holding place (after parts.did.0 parts.at.0) s) in
      let two = moved-ports p parts.left.0 place (after parts.did.0 parts.at.0) s k.two in
      let kept : (q : Place) → Kept q u parts.makes.0 = λ q. made-kept q machine parts.state parts.did.0 u parts.makes.0 two parts.makes.1 in
      let there : (q : Place) → same_place place q ≡ false → Kept q s parts.makes.0 = λ q differs. kept-through q s u parts.makes.0 (held-with_process q p parts.left.0 (set_holding place (after parts.did.0 parts.at.0) s) ∙ held-elsewhere place q (after parts.did.0 parts.at.0) s differs) (kept q) in
      let here = kept-here place u parts.makes.0 (after parts.did.0 parts.at.0) (held-with_process place p parts.left.0 (set_holding place (after parts.did.0 parts.at.0) s) ∙ held-there place s parts.at.0 parts.did.0 parts.at.1) (kept place) in
      let fits = done-fits parts.want.0 parts.at.0 parts.did.0 parts.did.1 in
      subst (λ (m : Moved _). AreTold m.system (with_entry journal (acts p place) m.done)) parts.moved (record {
        told_by = action-told s parts.makes.0 journal place p parts.at.0 parts.did.0 k parts.at.1 fits there here;
        absent = action-absent s parts.makes.0 journal place p parts.at.0 parts.did.0 k parts.at.1 fits there here;
        two = made-ports machine parts.state parts.did.0 u parts.makes.0 parts.makes.1 two;
      })

  step-told : (machine : Machine Name P) (e : Event) (s : System P) (m : Moved P) (journal : List Entry) → step machine e s ≡ Some m → AreTold s journal → AreTold m.system (with_entry journal e m.done)
  step-told machine (steps p) s m journal e k = local-told machine p s m journal e k
  step-told machine (acts p place) s m journal e k = event-told machine p place s m journal e k

  run-told : (machine : Machine Name P) (events : List Event) (r t : Run P) → run machine events r ≡ Some t → AreTold r.system r.journal → AreTold t.system t.journal
  run-told machine [] r t e k = subst (λ (x : Run _). AreTold x.system x.journal) (some-injective e) k
  run-told machine (e ∷ events) r t is k =
      let b = chain-some (run machine events) (run_on machine e r) t is in
      let m = map-some (λ (m : Moved _). record { system = m.system; journal = with_entry r.journal e m.done }) (step machine e r.system) b.0 b.1 in
      run-told machine events b.0 t b.2 (subst (λ (x : Run _). AreTold x.system x.journal) m.2 (step-told machine e r.system m.0 r.journal m.1 k))

-- at the start every place is told by no entries
opening-told : {P : Type 0} (machine : Machine Name P) (limits : Limits) (argument : Text) → AreTold limits (text_of (first_message argument)) (opening machine limits argument) []
opening-told machine limits argument = record { told_by = by_place; absent = λ q e. refl; two = omega arith }
  where
    by_place : (q : Place) (h : PlaceState (Cell Name) (CellReply Name)) → holding_at q (opening machine limits argument) ≡ Some h →
        Unit {0} × (first_recorded_state limits (text_of (first_message argument)) q ≡ recorded_state h)
    by_place (port zero) h e = (tt, ap recorded_state (some-injective e))
    by_place (port (suc zero)) h e = (tt, ap recorded_state (some-injective e))
    by_place (port (suc (suc n))) h e = none-not_some e
    by_place (reply_cell zero) h e = none-not_some e
    by_place (reply_cell (suc zero)) h e = (tt, ap recorded_state (some-injective e))
    by_place (reply_cell (suc (suc n))) h e = none-not_some e
    by_place book h e = (tt, ap recorded_state (some-injective e))

pub runs-told : {P : Type 0} (machine : Machine Name P) (limits : Limits) (argument : Text) (events : List Event) (r : Run P) → run machine events (start machine limits argument) ≡ Some r →
    (place : Place) (h : PlaceState (Cell Name) (CellReply Name)) → holding_at place r.system ≡ Some h →
    IsLegal (part_of_place place r.journal) (at_start (first_recorded_state limits (text_of (first_message argument)) place))
    × ((replay (part_of_place place r.journal) (at_start (first_recorded_state limits (text_of (first_message argument)) place))).holding ≡ recorded_state h)
runs-told machine limits argument events r e = (run-told limits (text_of (first_message argument)) machine events (start machine limits argument) r e (opening-told machine limits argument)).told_by
