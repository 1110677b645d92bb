-- A system as code holds it, whose values are trees without names; its events, and what is kept beside it. With the names forgotten, a
-- system of the language is one.
use Rattle.std.specs.Prelude.{ℕ, List, [], ◌∷◌, ◌++◌, map, find, Bool, cond, ◌||◌, Option, Some, None, is_some, option_map, option_and_then, slice_get, slice_set, ⊤}
use Rattle.herm_model.specs.CellNames.{rename}
use Rattle.herm_model.specs.Lists.{any_pass, list_of}
use Rattle.herm_model.specs.Values.{Name, Cell, cell, an_inport, no_parts}
use Rattle.herm_journal.specs.Actions.{to_take, make_port, make_process}
use Rattle.herm_journal.specs.Entries.{Place, port, reply_cell, book, same_place, map_port}
use Rattle.herm_journal.specs.Messages.{CellReply, CellWant, CellAction}
use Rattle.herm_journal.specs.NextNumbers.{Book}
use Rattle.herm_journal.specs.PlaceStates.{Replies, PlaceState, a_port, replies, a_book, after}
use Rattle.herm_journal.specs.Ports.{Port, empty_port}
use Rattle.herm_journal.specs.Renaming.{rename_reply, forget_name}
use Rattle.herm_system.specs.Machines.{Machine, Standing, ended, out_of_steps, out_of_actions, waiting, local, acting, is_local, is_acting}
use Rattle.herm_system.specs.Rounds.{place_or_book}
use Rattle.herm_system.specs.Systems.{System, numbered_from_one, set_from_one, places_for, done_at, standing, number_of, Event, steps, acts}
use Rattle.herm_waking.specs.Waking.{Kept, kept_by}

pub record Unnamed (Q : Type 0) : Type 0 where
  pub processes : List Q
  pub ports : List (Port (Cell ⊤))
  pub replies : List (Replies (CellReply ⊤))
  pub book : Book

-- the replies of a cell without names
abbrev pub bare_replies : Replies (CellReply Name) → Replies (CellReply ⊤)
bare_replies rs = map (λ r. (r.0, rename_reply forget_name r.1)) rs

-- A system without the names of its cells. Language reference, "Values".
abbrev pub unnamed : {P Q : Type 0} → (P → Q) → System P → Unnamed Q
unnamed without s = record {
  processes = map without s.processes;
  ports = map (map_port (rename forget_name)) s.ports;
  replies = map bare_replies s.replies;
  book = s.book;
}

-- what is at a place, and with something else there
abbrev pub bare_at : {Q : Type 0} → Place → Unnamed Q → Option (PlaceState (Cell ⊤) (CellReply ⊤))
bare_at (port n) v = option_map a_port (slice_get v.ports n)
bare_at (reply_cell p) v = option_map replies (numbered_from_one p v.replies)
bare_at book v = Some (a_book v.book)

abbrev pub set_bare : {Q : Type 0} → Place → PlaceState (Cell ⊤) (CellReply ⊤) → Unnamed Q → Unnamed Q
set_bare (port n) (a_port p) v = record v { ports = slice_set v.ports n p }
set_bare (reply_cell p) (replies rs) v = record v { replies = set_from_one p rs v.replies }
set_bare book (a_book b) v = record v { book = b }
set_bare place h v = v

-- Who can step, and what is done, as in a system of the language. Language reference, "Actions" and "Processes".
abbrev pub bare_can : {Q : Type 0} → Unnamed Q → (process : ℕ) → CellWant ⊤ → Bool
bare_can v p w = any_pass (λ place. is_some (option_and_then (done_at w) (bare_at place v))) (places_for p w)

abbrev pub bare_standing : {Q : Type 0} → Machine ⊤ Q → Unnamed Q → ℕ → Option Standing
bare_standing machine v p = option_map (standing machine v.book.limits.steps (bare_can v p)) (numbered_from_one p v.processes)

abbrev pub bare_stands : {Q : Type 0} → (Standing → Bool) → Machine ⊤ Q → Unnamed Q → ℕ → Bool
bare_stands test machine v p = any_pass test (list_of (λ x. x ∷ []) (bare_standing machine v p))

abbrev pub bare_can_step : {Q : Type 0} → Machine ⊤ Q → Unnamed Q → ℕ → Bool
bare_can_step machine v p = bare_stands is_local machine v p || bare_stands is_acting machine v p

-- the ports at which a process waits for a message
abbrev pub ports_of_want : Option (CellWant ⊤) → List ℕ
ports_of_want (Some (to_take ports)) = ports
ports_of_want _ = []

abbrev pub ports_as : Standing → List ℕ → List ℕ
ports_as waiting ports = ports
ports_as ended ports = []
ports_as out_of_steps ports = []
ports_as out_of_actions ports = []
ports_as local ports = []
ports_as acting ports = []

abbrev pub bare_awaited : {Q : Type 0} → Machine ⊤ Q → Unnamed Q → ℕ → List ℕ
bare_awaited machine v q = list_of (λ x. ports_as (standing machine v.book.limits.steps (bare_can v q) x) (ports_of_want (machine.wanted x))) (numbered_from_one q v.processes)

abbrev pub bare_open : {Q : Type 0} → Unnamed Q → ℕ → Bool
bare_open v n = any_pass (λ (p : Port (Cell ⊤)). p.is_open) (list_of (λ p. p ∷ []) (slice_get v.ports n))

-- The next event of a process. Language reference, "Rounds".
abbrev pub bare_place : {Q : Type 0} → Machine ⊤ Q → Unnamed Q → ℕ → Option Place
bare_place machine v p =
    option_and_then (λ x. option_and_then (λ w. find (λ place. is_some (option_and_then (done_at w) (bare_at place v))) (places_for p w)) (machine.wanted x)) (numbered_from_one p v.processes)

abbrev pub bare_turn : {Q : Type 0} → Machine ⊤ Q → Unnamed Q → ℕ → Option Event
bare_turn machine v p = cond (bare_stands is_local machine v p) (Some (steps p)) (cond (bare_stands is_acting machine v p) (Some (acts p (place_or_book (bare_place machine v p)))) None)

-- what an event leaves, with what was done
pub record BareMoved (Q : Type 0) : Type 0 where
  pub system : Unnamed Q
  pub done : Option (CellAction ⊤)

-- with what an action has made
abbrev pub with_bare : {Q : Type 0} → Machine ⊤ Q → CellAction ⊤ → Unnamed Q → Option (Unnamed Q)
with_bare machine (make_port (Some n)) v = Some (record v { ports = v.ports ++ empty_port ∷ [] })
with_bare machine (make_process code (Some made)) v =
    option_map
    (λ x. record v {
      processes = v.processes ++ x ∷ [];
      ports = v.ports ++ empty_port ∷ [];
      replies = v.replies ++ [] ∷ [];
    })
    (machine.begin code made.0 (cell tt (an_inport made.1) no_parts))
with_bare machine a v = Some v

abbrev pub set_bare_process : {Q : Type 0} → ℕ → Q → Unnamed Q → Unnamed Q
set_bare_process p x v = record v { processes = set_from_one p x v.processes }

abbrev pub bare_local : {Q : Type 0} → Machine ⊤ Q → ℕ → Unnamed Q → Option (BareMoved Q)
bare_local machine p v =
    cond (bare_stands is_local machine v p)
    (option_and_then (λ x. option_map (λ y. record { system = set_bare_process p y v; done = None }) (machine.local_step x)) (numbered_from_one p v.processes))
    None

abbrev pub bare_behind : {Q : Type 0} → Machine ⊤ Q → ℕ → Place → Unnamed Q → Q → PlaceState (Cell ⊤) (CellReply ⊤) → CellAction ⊤ → Option (BareMoved Q)
bare_behind machine p place v x h a =
    option_and_then
    (λ y. option_map (λ t. record { system = t; done = Some a }) (with_bare machine a (set_bare_process p y (set_bare place (after a h) v))))
    (machine.answered x (number_of place) a)

abbrev pub bare_act : {Q : Type 0} → Machine ⊤ Q → ℕ → Place → Unnamed Q → Q → CellWant ⊤ → Option (BareMoved Q)
bare_act machine p place v x w =
    cond (any_pass (same_place place) (places_for p w)) (option_and_then (λ h. option_and_then (bare_behind machine p place v x h) (done_at w h)) (bare_at place v)) None

abbrev pub bare_action : {Q : Type 0} → Machine ⊤ Q → ℕ → Place → Unnamed Q → Option (BareMoved Q)
bare_action machine p place v =
    cond (bare_stands is_acting machine v p)
    (option_and_then (λ x. option_and_then (bare_act machine p place v x) (machine.wanted x)) (numbered_from_one p v.processes))
    None

-- The system behind an event; none where the event can't be. Language reference, "The system".
abbrev pub bare_step : {Q : Type 0} → Machine ⊤ Q → Event → Unnamed Q → Option (BareMoved Q)
bare_step machine (steps p) v = bare_local machine p v
bare_step machine (acts p place) v = bare_action machine p place v

-- What is kept behind an event that has led to this system.
abbrev pub bare_kept : {Q : Type 0} → Machine ⊤ Q → (behind : Unnamed Q) → Event → Option (CellAction ⊤) → Kept → Kept
bare_kept machine v e a k = kept_by (bare_can_step machine v) (bare_awaited machine v) (bare_open v) e a k
