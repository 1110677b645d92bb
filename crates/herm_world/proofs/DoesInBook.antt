-- What is made is what is wanted, and what it leaves.
use Rattle.std.proofs.Common.{◌≡◌, ℕ, zero, suc, max, List, [], ◌∷◌, ◌++◌, length, map, Bool, true, false, cond, Option, Some, None, option_map, inl, inr, refl, sym, ap, ap₂, subst, ◌∙◌}
use Rattle.std.specs.Prelude.{slice_get, nat_lt, ◌&&◌, ◌⊎◌, ⊤}
use Rattle.herm_model.proofs.Options.{map-some, none-not_some, some-injective}
use Rattle.herm_model.specs.Values.{Cell}
use Rattle.herm_base.specs.declared.numbers.PortNo.{PortNo}
use Rattle.herm_base.specs.declared.numbers.ProcNo.{ProcNo}
use Rattle.herm_journal.specs.Actions.{new_port, new_process, make_port, make_process}
use Rattle.herm_journal.specs.Entries.{Place, port, reply_cell, book, same_place, Entry, recorded}
use Rattle.herm_journal.specs.Messages.{CellReply, CellWant, CellAction}
use Rattle.herm_journal.specs.NextNumbers.{Book, next_port, next_process}
use Rattle.herm_journal.specs.PlaceStates.{PlaceState, a_book, after}
use Rattle.herm_journal.specs.Ports.{empty_port}
use Rattle.herm_system.specs.Systems.{places_for, done_at, numbered_from_one}
use Rattle.herm_code_machine.specs.CodeStates.{CodeState}
use Rattle.herm_waking.specs.Unnamed.{set_bare}
use Rattle.herm_waking.specs.Waking.{woken_by, waiters_behind}
use Rattle.herm_queue.specs.CellStates as queue
use Rattle.herm_queue.specs.CellStates.{CellState, IsActed}
use Rattle.herm_queue.specs.BookStates.{BookState, book_cell}
use Rattle.herm_queue.specs.PortStates.{PortState, port_cell}
use Rattle.herm_queue.specs.ReplyStates.{ReplyState, reply_cell_of}
use Rattle.herm_queue.specs.SeenCells.{seen, seen_action}
use Rattle.herm_machine.specs.Gots.{FitsWant, IsWholeGot}
use Rattle.herm_machine.specs.declared.order.Got.{Got}
use Rattle.herm_machine.specs.declared.order.Got.TheVariants as gots
use Rattle.herm_process.specs.Entries.{action_of, place_of}
use Rattle.herm_world.specs.Counted.{BookActs}
use Rattle.herm_world.specs.Doing.{Does, with_places, AreRecorded}
use Rattle.herm_world.specs.Places.{Places, AreNumbered, port_seen, replies_seen, seen_of, cell_at, waiters_of}
use Rattle.herm_world.proofs.CellsGrow.{IsBehind, acted, stays, made, cells-grow}
use Rattle.herm_world.proofs.DoesAtPorts.{first-single}
use Rattle.herm_world.proofs.ListCases.{push-cases, joined-none}
use Rattle.herm_world.proofs.PlacesSeen.{map-joined}
use Rattle.herm_world.proofs.Recording.{actions-lead}

option-none : {X Y : Type 0} (f : X → Y) (o : Option X) → option_map f o ≡ None → o ≡ None
option-none f None e = refl
option-none f (Some x) e = none-not_some (sym e)

number-push : {X : Type 0} (xs : List X) (q : ℕ) (y z : X) → numbered_from_one q (xs ++ y ∷ []) ≡ Some z → (numbered_from_one q xs ≡ Some z) ⊎ ((numbered_from_one q xs ≡ None) × (q ≡ suc (length xs)) × (y ≡ z))
number-push xs zero y z e = none-not_some e
number-push xs (suc q) y z e = elim (push-cases xs q y z e) [ inl h ↦ inl h | inr h ↦ inr (h.0, ap suc h.1, h.2) ]

number-joined-none : {X : Type 0} (xs ys : List X) (q : ℕ) → numbered_from_one q (xs ++ ys) ≡ None → numbered_from_one q xs ≡ None
number-joined-none xs ys zero e = refl
number-joined-none xs ys (suc q) e = joined-none xs ys q e

-- a port and a reply cell as they are made
pub record IsNewPort (n : ℕ) (p : PortState) : Type 0 where
  pub number : p.number ≡ n
  pub held : p.held ≡ empty_port
  pub waiter : p.waiter ≡ None
  pub clock : p.clock ≡ 0
  pub entries : p.entries ≡ []

pub record IsNewReplies (owner : ℕ) (r : ReplyState) : Type 0 where
  pub owner_is : r.owner ≡ owner
  pub waiting : r.waiting ≡ []
  pub clock : r.clock ≡ 0
  pub entries : r.entries ≡ []

module _ (process clock : ℕ) (a : queue.CellAction) (old : Places) (behind : BookState) (acts : BookActs process clock a old.book behind) where
  held : a_book behind.held ≡ after (seen_action a) (seen (a_book old.book.held))
  held = ap seen (ap (λ (c : CellState). c.holding) acts.acted.after) ∙ actions-lead (a_book old.book.held) a

  pub book-left : (qs : List (CodeState ⊤)) → set_bare book (after (seen_action a) (seen (a_book old.book.held))) (seen_of qs old) ≡ record (seen_of qs old) { book = behind.held }
  book-left qs = ap (λ (h : PlaceState (Cell ⊤) (CellReply ⊤)). set_bare book h (seen_of qs old)) (sym held)

  book-there : (c : CellState) → Some (book_cell behind) ≡ Some c → IsBehind process clock book (book_cell old.book) a old book c
  book-there c e = acted acts.spare refl (subst (IsActed process clock a (record (book_cell old.book) { spare = acts.spare })) (some-injective e) acts.acted)

  clock-then : behind.clock ≡ suc (max clock old.book.clock)
  clock-then = ap (λ (c : CellState). c.clock) acts.acted.after

  -- nothing else is made
  abbrev pub book_then : Places
  book_then = record old { book = behind }

  pub behind-book : (other : Place) (c : CellState) → cell_at other book_then ≡ Some c → IsBehind process clock book (book_cell old.book) a old other c
  behind-book (port m) c e = stays refl e
  behind-book (reply_cell q) c e = stays refl e
  behind-book book c e = book-there c e

  pub absent-book : (other : Place) → cell_at other book_then ≡ None → cell_at other old ≡ None
  absent-book (port m) e = e
  absent-book (reply_cell q) e = e
  absent-book book e = none-not_some (sym e)

  module _ (numbered : AreNumbered old) (p : PortState) (new : IsNewPort (suc old.book.held.ports) p) where
    -- a port
    abbrev pub port_then : Places
    port_then = record old { ports = old.ports ++ p ∷ []; book = behind }

    new-port : (m : ℕ) (c : CellState) → cell_at (port m) port_then ≡ Some c → IsBehind process clock book (book_cell old.book) a old (port m) c
    new-port m c e =
        let found = map-some port_cell (slice_get (old.ports ++ p ∷ []) m) c e in
        elim (push-cases old.ports m p found.0 found.1) [
          | inl h ↦ stays refl (ap (option_map port_cell) h ∙ ap (λ c. Some c) found.2)
          | inr h ↦
              let is : port_cell p ≡ c = ap port_cell h.2 ∙ found.2 in
              made refl (ap (option_map port_cell) h.0) (ap (λ (c : CellState). c.place) (sym is) ∙ ap port (new.number ∙ sym numbered.ports ∙ sym h.1)) (ap (λ (c : CellState). c.entries) (sym is) ∙ new.entries)
              (ap (λ (c : CellState). c.clock) (sym is) ∙ new.clock)
        ]

    pub behind-port : (other : Place) (c : CellState) → cell_at other port_then ≡ Some c → IsBehind process clock book (book_cell old.book) a old other c
    behind-port (port m) c e = new-port m c e
    behind-port (reply_cell q) c e = stays refl e
    behind-port book c e = book-there c e

    pub absent-port : (other : Place) → cell_at other port_then ≡ None → cell_at other old ≡ None
    absent-port (port m) e = ap (option_map port_cell) (joined-none old.ports (p ∷ []) m (option-none port_cell (slice_get (old.ports ++ p ∷ []) m) e))
    absent-port (reply_cell q) e = e
    absent-port book e = none-not_some (sym e)

    pub ports-seen : map port_seen (old.ports ++ p ∷ []) ≡ map port_seen old.ports ++ empty_port ∷ []
    ports-seen = map-joined port_seen old.ports p ∙ ap (λ x. map port_seen old.ports ++ x ∷ []) (ap (Rattle.herm_journal.specs.Entries.map_port Rattle.herm_values.specs.View.value_view) new.held)

    pub waiters-then : waiters_of port_then ≡ waiters_of old ++ None ∷ []
    waiters-then = map-joined (λ (p : PortState). p.waiter) old.ports p ∙ ap (λ w. waiters_of old ++ w ∷ []) new.waiter

    module _ (r : ReplyState) (new-replies : IsNewReplies (suc old.book.held.processes) r) where
      -- and a reply cell
      abbrev pub process_then : Places
      process_then = record { ports = old.ports ++ p ∷ []; replies = old.replies ++ r ∷ []; book = behind }

      pub behind-process : (other : Place) (c : CellState) → cell_at other process_then ≡ Some c → IsBehind process clock book (book_cell old.book) a old other c
      behind-process (port m) c e = new-port m c e
      behind-process (reply_cell q) c e =
          let found = map-some reply_cell_of (numbered_from_one q (old.replies ++ r ∷ [])) c e in
          elim (number-push old.replies q r found.0 found.1) [
            | inl h ↦ stays refl (ap (option_map reply_cell_of) h ∙ ap (λ c. Some c) found.2)
            | inr h ↦
                let is : reply_cell_of r ≡ c = ap reply_cell_of h.2 ∙ found.2 in
                made refl (ap (option_map reply_cell_of) h.0) (ap (λ (c : CellState). c.place) (sym is) ∙ ap reply_cell (new-replies.owner_is ∙ ap suc (sym numbered.replies) ∙ sym h.1))
                (ap (λ (c : CellState). c.entries) (sym is) ∙ new-replies.entries) (ap (λ (c : CellState). c.clock) (sym is) ∙ new-replies.clock)
          ]
      behind-process book c e = book-there c e

      pub absent-process : (other : Place) → cell_at other process_then ≡ None → cell_at other old ≡ None
      absent-process (port m) e = absent-port (port m) e
      absent-process (reply_cell q) e = ap (option_map reply_cell_of) (number-joined-none old.replies (r ∷ []) q (option-none reply_cell_of (numbered_from_one q (old.replies ++ r ∷ [])) e))
      absent-process book e = none-not_some (sym e)

      pub replies-seen : map replies_seen (old.replies ++ r ∷ []) ≡ map replies_seen old.replies ++ [] ∷ []
      replies-seen = map-joined replies_seen old.replies r ∙ ap (λ x. map replies_seen old.replies ++ x ∷ []) (ap (λ ws. map (λ r. (r.0, Rattle.herm_letters.specs.View.reply_view r.1)) ws) new-replies.waiting)

  -- what is done in the book
  does-in : (new : Places) (want : CellWant ⊤) (got : Got) (stamp : ℕ) (woken : List ℕ) → places_for process want ≡ book ∷ []
      → done_at want (seen (a_book old.book.held)) ≡ Some (seen_action a) → action_of got want ≡ Some (seen_action a) → place_of process got want ≡ book → FitsWant got want → IsWholeGot got → stamp ≡ behind.clock
      → ((qs : List (CodeState ⊤)) → with_places (seen_action a) (record (seen_of qs old) { book = behind.held }) ≡ seen_of qs new)
      → waiters_of new ≡ waiters_behind book (seen_action a) (waiters_of old)
      → woken ≡ woken_by book (seen_action a) (waiters_of old)
      → ((other : Place) (c : CellState) → cell_at other new ≡ Some c → IsBehind process clock book (book_cell old.book) a old other c)
      → ((other : Place) → cell_at other new ≡ None → cell_at other old ≡ None)
      → Does process clock want old new got stamp woken
  does-in new want got stamp woken single does tells at fits whole stamped makes noted wakes behind-all absent-all = record {
    place = book;
    cell = book_cell old.book;
    there = refl;
    action = a;
    first = λ qs. first-single (seen_of qs old) process want book (seen (a_book old.book.held)) (seen_action a) single refl does;
    does = does;
    tells = tells;
    at = at;
    fits = fits;
    whole = whole;
    stamped = stamped ∙ clock-then;
    left = λ qs. ap (with_places (seen_action a)) (book-left qs) ∙ makes qs;
    noted = noted;
    wakes = wakes;
    records = λ journal are.
        subst (λ stamp. AreRecorded (journal ++ record { stamp = stamp; process = process; place = book; action = recorded (seen_action a) } ∷ []) new) (sym (stamped ∙ clock-then))
        (cells-grow process clock book (book_cell old.book) a old new refl behind-all absent-all journal are);
  }

abbrev make_port_cells : Option ℕ → CellAction ⊤
make_port_cells o = make_port o

abbrev make_process_cells : ℕ → Option (ℕ × ℕ) → CellAction ⊤
make_process_cells code o = make_process code o

-- the numbers that are next
next-port : (b : Book) (n : ℕ) → next_port b ≡ Some n → n ≡ suc b.ports
next-port b n e = by (nat_lt b.ports b.limits.ports) e
  where
    by : (t : Bool) → cond t (Some (suc b.ports)) None ≡ Some n → n ≡ suc b.ports
    by true e = sym (some-injective e)
    by false e = none-not_some e

next-process : (b : Book) (p n : ℕ) → next_process b ≡ Some (p, n) → (p ≡ suc b.processes) × (n ≡ suc b.ports)
next-process b p n e = by (nat_lt b.processes b.limits.processes && nat_lt b.ports b.limits.ports) e
  where
    by : (t : Bool) → cond {A = Option (ℕ × ℕ)} t (Some (suc b.processes, suc b.ports)) None ≡ Some (p, n) → (p ≡ suc b.processes) × (n ≡ suc b.ports)
    by true e = (sym (ap (λ (m : ℕ × ℕ). m.0) (some-injective e)), sym (ap (λ (m : ℕ × ℕ). m.1) (some-injective e)))
    by false e = none-not_some e

abbrev pub numbers_of : ProcNo × PortNo → ℕ × ℕ
numbers_of m = (m.0.number, m.1.number)

module _ (process clock : ℕ) (old : Places) (behind : BookState) (stamp : ℕ) (stamped : stamp ≡ behind.clock) where
  pub no-port-does : BookActs process clock (make_port None) old.book behind → Does process clock new_port old (record old { book = behind }) (gots.Port None) stamp []
  no-port-does acts =
      does-in process clock (make_port None) old behind acts (record old { book = behind }) new_port (gots.Port None) stamp [] refl (ap (λ (o : Option ℕ). Some (make_port_cells o)) acts.acted.enabled) refl refl tt tt stamped
      (λ qs. refl) refl refl (behind-book process clock (make_port None) old behind acts) (absent-book process clock (make_port None) old behind acts)

  pub port-does : (n : PortNo) (p : PortState) → BookActs process clock (make_port (Some n.number)) old.book behind → AreNumbered old → IsNewPort n.number p
      → Does process clock new_port old (record old { ports = old.ports ++ p ∷ []; book = behind }) (gots.Port (Some n)) stamp []
  port-does n p acts numbered new =
      let next = next-port old.book.held n.number acts.acted.enabled in
      let new : IsNewPort (suc old.book.held.ports) p = subst (λ n. IsNewPort n p) next new in
      does-in process clock (make_port (Some n.number)) old behind acts (record old { ports = old.ports ++ p ∷ []; book = behind }) new_port (gots.Port (Some n)) stamp [] refl
      (ap (λ (o : Option ℕ). Some (make_port_cells o)) acts.acted.enabled) refl refl tt tt stamped
      (λ qs. ap (λ ps. record (seen_of qs old) { ports = ps; book = behind.held }) (sym (ports-seen process clock (make_port (Some n.number)) old behind acts numbered p new)))
      (waiters-then process clock (make_port (Some n.number)) old behind acts numbered p new) refl
      (behind-port process clock (make_port (Some n.number)) old behind acts numbered p new) (absent-port process clock (make_port (Some n.number)) old behind acts numbered p new)

  pub no-process-does : (code : ℕ) → BookActs process clock (make_process code None) old.book behind → Does process clock (new_process code) old (record old { book = behind }) (gots.Process None) stamp []
  no-process-does code acts =
      does-in process clock (make_process code None) old behind acts (record old { book = behind }) (new_process code) (gots.Process None) stamp [] refl
      (ap (λ (o : Option (ℕ × ℕ)). Some (make_process_cells code o)) acts.acted.enabled) refl refl tt tt stamped
      (λ qs. refl) refl refl (behind-book process clock (make_process code None) old behind acts) (absent-book process clock (make_process code None) old behind acts)

  pub process-does : (code : ℕ) (m : ProcNo × PortNo) (p : PortState) (r : ReplyState) → BookActs process clock (make_process code (Some (numbers_of m))) old.book behind → AreNumbered old → IsNewPort m.1.number p → IsNewReplies m.0.number r
      → Does process clock (new_process code) old (record { ports = old.ports ++ p ∷ []; replies = old.replies ++ r ∷ []; book = behind }) (gots.Process (Some m)) stamp (m.0.number ∷ [])
  process-does code m p r acts numbered new-p new-r =
      let next = next-process old.book.held m.0.number m.1.number acts.acted.enabled in
      let new : IsNewPort (suc old.book.held.ports) p = subst (λ n. IsNewPort n p) next.1 new-p in
      let new-r : IsNewReplies (suc old.book.held.processes) r = subst (λ n. IsNewReplies n r) next.0 new-r in
      does-in process clock (make_process code (Some (numbers_of m))) old behind acts (record { ports = old.ports ++ p ∷ []; replies = old.replies ++ r ∷ []; book = behind }) (new_process code) (gots.Process (Some m)) stamp (m.0.number ∷ []) refl
      (ap (λ (o : Option (ℕ × ℕ)). Some (make_process_cells code o)) acts.acted.enabled) refl refl tt tt stamped
      (λ qs. ap₂ (λ ps rs. record (seen_of qs old) { ports = ps; replies = rs; book = behind.held }) (sym (ports-seen process clock (make_process code (Some (numbers_of m))) old behind acts numbered p new)) (sym (replies-seen process clock (make_process code (Some (numbers_of m))) old behind acts numbered p new r new-r)))
      (waiters-then process clock (make_process code (Some (numbers_of m))) old behind acts numbered p new) refl
      (behind-process process clock (make_process code (Some (numbers_of m))) old behind acts numbered p new r new-r) (absent-process process clock (make_process code (Some (numbers_of m))) old behind acts numbered p new r new-r)

-- what was made, where memory was taken before
pub port-acts : (process clock : ℕ) (before reserved behind : BookState) (was wanted : Option PortNo) → was ≡ wanted → reserved ≡ record before { spare = reserved.spare }
    → IsActed process clock (make_port (option_map (λ (p : PortNo). p.number) was)) (book_cell reserved) (book_cell behind) → BookActs process clock (make_port (option_map (λ (p : PortNo). p.number) wanted)) before behind
port-acts process clock before reserved behind was wanted is same done =
    record {
      spare = reserved.spare;
      acted = subst (λ o. IsActed process clock (make_port (option_map (λ (p : PortNo). p.number) o)) (book_cell (record before { spare = reserved.spare })) (book_cell behind)) is
          (subst (λ (b : BookState). IsActed process clock (make_port (option_map (λ (p : PortNo). p.number) was)) (book_cell b) (book_cell behind)) same done);
    }

pub process-acts : (process clock code : ℕ) (before reserved behind : BookState) (was wanted : Option (ProcNo × PortNo)) → was ≡ wanted → reserved ≡ record before { spare = reserved.spare }
    → IsActed process clock (make_process code (option_map numbers_of was)) (book_cell reserved) (book_cell behind) → BookActs process clock (make_process code (option_map numbers_of wanted)) before behind
process-acts process clock code before reserved behind was wanted is same done =
    record {
      spare = reserved.spare;
      acted = subst (λ o. IsActed process clock (make_process code (option_map numbers_of o)) (book_cell (record before { spare = reserved.spare })) (book_cell behind)) is
          (subst (λ (b : BookState). IsActed process clock (make_process code (option_map numbers_of was)) (book_cell b) (book_cell behind)) same done);
    }
