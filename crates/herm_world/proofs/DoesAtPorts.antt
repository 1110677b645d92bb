-- Puts, takes and closes are what is wanted.
use Rattle.std.proofs.Common.{◌≡◌, ℕ, suc, max, List, [], ◌∷◌, ◌++◌, length, map, find, is_some, cond, Option, Some, None, option_map, option_and_then, refl, sym, ap, ap₂, subst, ◌∙◌}
use Rattle.std.specs.Prelude.{slice_get, slice_set, All, ⊤}
use Rattle.herm_model.proofs.Options.{none-not_some, some-injective}
use Rattle.herm_model.specs.Lists.{list_of}
use Rattle.herm_model.specs.Values.{Cell}
use Rattle.herm_journal.specs.Actions.{to_put, to_take, to_close, put, take, close}
use Rattle.herm_journal.specs.Entries.{Place, port, recorded}
use Rattle.herm_journal.specs.Messages.{CellReply, CellWant, CellAction}
use Rattle.herm_journal.specs.PlaceStates.{PlaceState, a_port}
use Rattle.herm_journal.specs.Ports.{first_of}
use Rattle.herm_system.specs.Systems.{places_for, done_at}
use Rattle.herm_code_machine.specs.CodeStates.{CodeState}
use Rattle.herm_waking.specs.Unnamed.{Unnamed, bare_at}
use Rattle.herm_waking.specs.Waking.{woken_by, waiters_behind}
use Rattle.herm_base.specs.declared.numbers.PortNo.{PortNo}
use Rattle.herm_base.specs.declared.numbers.ProcNo.{ProcNo}
use Rattle.herm_values.specs.View.{value_view}
use Rattle.herm_values.specs.Whole.{IsWhole}
use Rattle.herm_values.specs.declared.value.Value.{Value}
use Rattle.herm_letters.specs.Letters.{IsParcel}
use Rattle.herm_letters.specs.LettersInOrder.{QueueState}
use Rattle.herm_letters.specs.declared.parcel.Parcel.{Parcel}
use Rattle.herm_queue.specs.CellStates as queue
use Rattle.herm_queue.specs.CellStates.{CellState, value_text}
use Rattle.herm_queue.specs.MessageStates.{queue_of, values_of}
use Rattle.herm_queue.specs.PortStates.{PortState, port_cell, number_of, stamp_of, text_in, IsBack}
use Rattle.herm_queue.specs.SeenCells.{seen, seen_action}
use Rattle.herm_queue.specs.declared.port_cell.Put.{Put}
use Rattle.herm_queue.specs.declared.port_cell.Put.TheVariants.{Placed, Closed}
use Rattle.herm_machine.specs.Gots.{FitsWant, IsWholeGot}
use Rattle.herm_machine.specs.declared.order.Got.{Got}
use Rattle.herm_machine.specs.declared.order.Got.TheVariants as gots
use Rattle.herm_process.specs.Entries.{action_of, place_of}
use Rattle.herm_world.specs.Acting.{first_place_for}
use Rattle.herm_world.specs.Counted.{PortActs, woken_at_put}
use Rattle.herm_world.specs.Doing.{Does, numbers_in, with_places, AreRecorded}
use Rattle.herm_world.specs.Places.{Places, seen_of, waiters_of}
use Rattle.herm_world.proofs.DoneAtPorts.{ports_then, port-left, port-noted, port-records}
use Rattle.herm_world.proofs.ListCases.{set-itself}
use Rattle.herm_world.proofs.PlacesSeen.{get-map, holds-seen}

-- of one place, at which it can be done
pub first-single : {Q : Type 0} (v : Unnamed Q) (process : ℕ) (want : CellWant ⊤) (place : Place) (h : PlaceState (Cell ⊤) (CellReply ⊤)) (a : CellAction ⊤) → places_for process want ≡ place ∷ []
    → bare_at place v ≡ Some h → done_at want h ≡ Some a → first_place_for v process want ≡ Some place
first-single v process want place h a single holds does =
    ap (find (λ place. is_some (option_and_then (done_at want) (bare_at place v)))) single
    ∙ ap (λ o. cond (is_some (option_and_then (done_at want) o)) (Some place) None) holds
    ∙ ap (λ o. cond (is_some o) (Some place) None) does

module _ (process clock n : ℕ) (a : queue.CellAction) (noted : Option ℕ → Option ℕ) (old : Places) (s behind : PortState) (there : slice_get old.ports n ≡ Some s) (acts : PortActs process clock a noted s behind) where
  held-there : (qs : List (CodeState ⊤)) → bare_at (port n) (seen_of qs old) ≡ Some (seen (a_port s.held))
  held-there qs = holds-seen qs old (port n) ∙ ap (λ o. option_map (λ (c : CellState). seen c.holding) (option_map port_cell o)) there

  waiter-there : slice_get (waiters_of old) n ≡ Some s.waiter
  waiter-there = get-map (λ (p : PortState). p.waiter) old.ports n ∙ ap (option_map (λ (p : PortState). p.waiter)) there

  clock-then : behind.clock ≡ suc (max clock s.clock)
  clock-then = ap (λ (c : CellState). c.clock) acts.acted.after

  does-at : (want : CellWant ⊤) (got : Got) (stamp : ℕ) (woken : List ℕ)
      → ((qs : List (CodeState ⊤)) → first_place_for (seen_of qs old) process want ≡ Some (port n))
      → done_at want (seen (a_port s.held)) ≡ Some (seen_action a) → action_of got want ≡ Some (seen_action a) → place_of process got want ≡ port n → FitsWant got want → IsWholeGot got → stamp ≡ behind.clock
      → ((v : Unnamed (CodeState ⊤)) → with_places (seen_action a) v ≡ v)
      → slice_set (waiters_of old) n (noted s.waiter) ≡ waiters_behind (port n) (seen_action a) (waiters_of old)
      → woken ≡ woken_by (port n) (seen_action a) (waiters_of old)
      → Does process clock want old (ports_then process clock n a noted old s behind there acts) got stamp woken
  does-at want got stamp woken first does tells at fits whole stamped makes noted_ok wakes = record {
    place = port n;
    cell = port_cell s;
    there = ap (option_map port_cell) there;
    action = a;
    first = first;
    does = does;
    tells = tells;
    at = at;
    fits = fits;
    whole = whole;
    stamped = stamped ∙ clock-then;
    left = λ qs. makes _ ∙ port-left process clock n a noted old s behind there acts qs;
    noted = port-noted process clock n a noted old s behind there acts ∙ noted_ok;
    wakes = wakes;
    records = λ journal are.
        subst (λ stamp. AreRecorded (journal ++ record { stamp = stamp; process = process; place = port n; action = recorded (seen_action a) } ∷ []) (ports_then process clock n a noted old s behind there acts)) (sym (stamped ∙ clock-then))
        (port-records process clock n a noted old s behind there acts journal are);
  }

abbrev take_cell : ℕ → Cell ⊤ → CellAction ⊤
take_cell number m = take number m

abbrev close_cells : ℕ → List (Cell ⊤) → CellAction ⊤
close_cells count left = close count left

-- the messages that are handed over
abbrev close_left : List Parcel → queue.CellAction
close_left ps = close (length ps) (values_of ps)

long : (ps : List Parcel) → length (map {B = ℕ × Cell ⊤} (λ (q : ℕ × Value). (q.0, value_view q.1)) (queue_of ps)) ≡ length ps
long [] = refl
long (p ∷ ps) = ap suc (long ps)

seen-values : (ps : List Parcel) → map (λ (q : ℕ × Cell ⊤). q.1) (map {B = ℕ × Cell ⊤} (λ (q : ℕ × Value). (q.0, value_view q.1)) (queue_of ps)) ≡ map value_view (values_of ps)
seen-values [] = refl
seen-values (p ∷ ps) = ap (value_view p.value ∷◌) (seen-values ps)

same-values : (ps : List Parcel) → map (λ (p : Parcel). value_view p.value) ps ≡ map value_view (values_of ps)
same-values [] = refl
same-values (p ∷ ps) = ap (value_view p.value ∷◌) (same-values ps)

-- who was noted is woken
woken-one : (o : Option ProcNo) (w : Option ℕ) → option_map (λ (p : ProcNo). p.number) o ≡ w → numbers_in o ≡ list_of (λ q. q ∷ []) w
woken-one None w e = ap (list_of (λ q. q ∷ [])) e
woken-one (Some p) w e = ap (list_of (λ q. q ∷ [])) e

abbrev pub got_of_put : Put → Got
got_of_put (Placed stamp number text) = gots.Placed number text
got_of_put (Closed stamp value text) = gots.Back value text

module _ (process clock n : ℕ) (letter : Value) (old : Places) (s behind : PortState) (there : slice_get old.ports n ≡ Some s) where
  single-put : (number : Option ℕ) → PortActs process clock (put number letter) (woken_at_put number) s behind
      → (done_at (to_put n (value_view letter)) (seen (a_port s.held)) ≡ Some (put number (value_view letter)))
      × ((qs : List (CodeState ⊤)) → first_place_for (seen_of qs old) process (to_put n (value_view letter)) ≡ Some (port n))
  single-put number acts =
      let does = ap (λ k. Some (put k (value_view letter))) acts.acted.enabled in
      (does, λ qs. first-single (seen_of qs old) process (to_put n (value_view letter)) (port n) (seen (a_port s.held)) (put number (value_view letter)) refl (held-there process clock n (put number letter) (woken_at_put number) old s behind there acts qs) does)

  pub put-does : (answer : Put) (woken : Option ProcNo) (acts : PortActs process clock (put (number_of answer) letter) (woken_at_put (number_of answer)) s behind)
      → option_map (λ (p : ProcNo). p.number) woken ≡ cond (is_some (number_of answer)) s.waiter None → stamp_of answer ≡ behind.clock → text_in answer ≡ value_text letter → IsBack letter answer
      → Does process clock (to_put n (value_view letter)) old (record old { ports = slice_set old.ports n behind }) (got_of_put answer) (stamp_of answer) (numbers_in woken)
  put-does (Placed stamp number text) woken acts wakes stamped told back =
      let single = single-put (Some number) acts in
      does-at process clock n (put (Some number) letter) (woken_at_put (Some number)) old s behind there acts (to_put n (value_view letter)) (gots.Placed number text) stamp.0 (numbers_in woken)
      single.1 single.0 refl refl told tt stamped (λ v. refl) refl
      (woken-one woken s.waiter wakes ∙ ap (λ o. list_of (λ o. list_of (λ q. q ∷ []) o) o) (sym (waiter-there process clock n (put (Some number) letter) (woken_at_put (Some number)) old s behind there acts)))
  put-does (Closed stamp value text) woken acts wakes stamped told back =
      let single = single-put None acts in
      does-at process clock n (put None letter) (woken_at_put None) old s behind there acts (to_put n (value_view letter)) (gots.Back value text) stamp.0 (numbers_in woken)
      single.1 single.0 (ap (λ v. Some (put None (value_view v))) back.0) refl (ap value_view back.0, told) (subst IsWhole (sym back.0) back.1) stamped (λ v. refl)
      (set-itself (waiters_of old) n s.waiter (waiter-there process clock n (put None letter) (woken_at_put None) old s behind there acts))
      (woken-one woken None wakes)

module _ (process clock n : ℕ) (old : Places) (s behind : PortState) (there : slice_get old.ports n ≡ Some s) where
  pub take-does : (ports : List ℕ) (at : PortNo) (parcel : Parcel) (stamp : ℕ) (acts : PortActs process clock (take parcel.number parcel.value) (λ w. w) s behind) → at.number ≡ n → IsParcel parcel → stamp ≡ behind.clock
      → ((qs : List (CodeState ⊤)) → first_place_for (seen_of qs old) process (to_take ports) ≡ Some (port n))
      → Does process clock (to_take ports) old (record old { ports = slice_set old.ports n behind }) (gots.Message at parcel) stamp []
  take-does ports at parcel stamp acts its whole stamped first =
      does-at process clock n (take parcel.number parcel.value) (λ w. w) old s behind there acts (to_take ports) (gots.Message at parcel) stamp []
      first (taken s.held.queue acts.acted.enabled) refl (ap port its) tt whole stamped (λ v. refl)
      (set-itself (waiters_of old) n s.waiter (waiter-there process clock n (take parcel.number parcel.value) (λ w. w) old s behind there acts)) refl
    where
      taken : (queue : List (ℕ × Value)) → first_of queue ≡ Some (parcel.number, parcel.value)
          → option_map (λ (q : ℕ × Cell ⊤). take_cell q.0 q.1) (first_of (map {B = ℕ × Cell ⊤} (λ (q : ℕ × Value). (q.0, value_view q.1)) queue)) ≡ Some (take_cell parcel.number (value_view parcel.value))
      taken [] e = none-not_some e
      taken (q ∷ qs) e = ap (λ (q : ℕ × Value). Some (take_cell q.0 (value_view q.1))) (some-injective e)

  pub close-does : (left : QueueState) (stamp : ℕ) (acts : PortActs process clock (close (length left.parcels) (values_of left.parcels)) (λ w. None) s behind) → queue_of left.parcels ≡ s.held.queue → All IsParcel left.parcels
      → stamp ≡ behind.clock → Does process clock (to_close n) old (record old { ports = slice_set old.ports n behind }) (gots.Left left) stamp []
  close-does left stamp acts handed whole stamped =
      does-at process clock n (close_left left.parcels) (λ w. None) old s behind there acts (to_close n) (gots.Left left) stamp []
      (λ qs. first-single (seen_of qs old) process (to_close n) (port n) (seen (a_port s.held)) (seen_action (close_left left.parcels)) refl (held-there process clock n (close_left left.parcels) (λ w. None) old s behind there acts qs) does)
      does (ap (λ vs. Some (close_cells (length left.parcels) vs)) (same-values left.parcels)) refl tt whole stamped (λ v. refl) refl refl
    where
      seen-queue : (ps : List Parcel) → close_cells (length (map {B = ℕ × Cell ⊤} (λ (q : ℕ × Value). (q.0, value_view q.1)) (queue_of ps))) (map (λ (q : ℕ × Cell ⊤). q.1) (map {B = ℕ × Cell ⊤} (λ (q : ℕ × Value). (q.0, value_view q.1)) (queue_of ps)))
          ≡ close_cells (length ps) (map value_view (values_of ps))
      seen-queue ps = ap₂ (λ n vs. close_cells n vs) (long ps) (seen-values ps)

      does : done_at (to_close n) (seen (a_port s.held)) ≡ Some (seen_action (close_left left.parcels))
      does =
          ap (λ (q : List (ℕ × Value)). Some (close_cells (length (map {B = ℕ × Cell ⊤} (λ (q : ℕ × Value). (q.0, value_view q.1)) q)) (map (λ (q : ℕ × Cell ⊤). q.1) (map {B = ℕ × Cell ⊤} (λ (q : ℕ × Value). (q.0, value_view q.1)) q)))) (sym handed)
          ∙ ap Some (seen-queue left.parcels)
