-- The whole system: processes, ports, reply cells and the book; its opening state, its events, its journal and runs.
use Rattle.std.specs.Prelude.{ℕ, zero, suc, List, [], ◌∷◌, ◌++◌, map, Bool, true, false, cond, Option, Some, None, is_some, option_map, option_and_then, slice_get, slice_set, length, ◌≡◌, ◌||◌}
use Rattle.herm_model.specs.Lists.{any_pass, list_of}
use Rattle.herm_model.specs.Values.{Name, a_scalar, a_text, a_record, an_inport, an_outport, Cell, cell, no_parts, part}
use Rattle.herm_journal.specs.Actions.{Want, new_port, new_process, to_put, to_take, to_close, to_answer, to_hear, Action, make_port, make_process, put, take, close, answer, hear}
use Rattle.herm_journal.specs.Ports.{Port, empty_port, port_with, number_for, first_of, left_in}
use Rattle.herm_journal.specs.PlaceStates.{Replies, PlaceState, a_port, replies, a_book, after}
use Rattle.herm_journal.specs.NextNumbers.{Limits, Book, first_book, next_port, next_process}
use Rattle.herm_journal.specs.Entries.{Text, Place, port, reply_cell, book, same_place, Entry, recorded}
use Rattle.herm_journal.specs.Stamps.{entry_behind}
use Rattle.herm_journal.specs.Messages.{CellReply, CellWant, CellAction}
use Rattle.herm_system.specs.Machines.{Machine, Standing, ended, out_of_steps, out_of_actions, waiting, local, acting, is_local, is_acting, inport_of}

-- Processes and reply cells are listed from process 1 on, ports from port 0 on. Process 0, the console, makes no step
-- and holds one cell, the inport of port 0. Language reference, "The system".
pub record System (P : Type 0) : Type 0 where
  pub processes : List P
  pub ports : List (Port (Cell Name))
  pub replies : List (Replies (CellReply Name))
  pub book : Book

-- The five cells of the start: the inports of ports 0 and 1, and the first message, a record of the argument and an
-- outport to the console. Language reference, "Opening state".
abbrev pub opening_name : ℕ → Name
opening_name s = (0, s)

abbrev pub console_port : Cell Name
console_port = cell (opening_name 0) (an_inport 0) no_parts

abbrev pub main_port : Cell Name
main_port = cell (opening_name 1) (an_inport 1) no_parts

abbrev pub first_message : Text → Cell Name
first_message arg =
    cell (opening_name 2) a_record
    (part (cell (opening_name 3) (a_scalar (a_text arg)) no_parts) (part (cell (opening_name 4) (an_outport 0) no_parts) no_parts))

-- The state at the start: process 1 runs main at port 1, where the first message is queued.
-- Language reference, "Opening state".
abbrev pub opening : {P : Type 0} → Machine Name P → Limits → Text → System P
opening machine limits arg = record {
  processes = list_of (λ x. x ∷ []) (machine.begin machine.main 1 main_port);
  ports = empty_port ∷ port_with (first_message arg) ∷ [];
  replies = [] ∷ [];
  book = first_book limits;
}

-- the element of this number in a list that begins with number 1
abbrev pub numbered_from_one : {X : Type 0} → ℕ → List X → Option X
numbered_from_one zero xs = None
numbered_from_one (suc i) xs = slice_get xs i

abbrev pub set_from_one : {X : Type 0} → ℕ → X → List X → List X
set_from_one zero x xs = xs
set_from_one (suc i) x xs = slice_set xs i x

-- what is at a place, where there is such a place
abbrev pub holding_at : {P : Type 0} → Place → System P → Option (PlaceState (Cell Name) (CellReply Name))
holding_at (port n) s = option_map a_port (slice_get s.ports n)
holding_at (reply_cell p) s = option_map replies (numbered_from_one p s.replies)
holding_at book s = Some (a_book s.book)

abbrev pub set_holding : {P : Type 0} → Place → PlaceState (Cell Name) (CellReply Name) → System P → System P
set_holding (port n) (a_port p) s = record s { ports = slice_set s.ports n p }
set_holding (reply_cell p) (replies rs) s = record s { replies = set_from_one p rs s.replies }
set_holding book (a_book b) s = record s { book = b }
set_holding place h s = s

-- The places at which what a process wants may be done. Language reference, "Actions".
abbrev pub places_for : {M R : Type 0} → (process : ℕ) → Want M R → List Place
places_for p new_port = book ∷ []
places_for p (new_process code) = book ∷ []
places_for p (to_put n m) = port n ∷ []
places_for p (to_take ports) = map port ports
places_for p (to_close n) = port n ∷ []
places_for p (to_answer caller call r) = reply_cell caller ∷ []
places_for p to_hear = reply_cell p ∷ []

-- What is done there of what is wanted, with the answer; none where nothing can be done there now.
-- Language reference, "Actions".
abbrev pub done_at : {M R : Type 0} → Want M R → PlaceState M R → Option (Action M R)
done_at new_port (a_book b) = Some (make_port (next_port b))
done_at (new_process code) (a_book b) = Some (make_process code (next_process b))
done_at (to_put n m) (a_port p) = Some (put (number_for p) m)
done_at (to_take ports) (a_port p) = option_map (λ q. take q.0 q.1) (first_of p.queue)
done_at (to_close n) (a_port p) = Some (close (length p.queue) (left_in p))
done_at (to_answer caller call r) (replies rs) = Some (answer call r)
done_at to_hear (replies rs) = option_map (λ r. hear r.0 r.1) (first_of rs)
done_at w h = None

abbrev pub done_in : {P : Type 0} → CellWant Name → System P → Place → Option (CellAction Name)
done_in w s place = option_and_then (done_at w) (holding_at place s)

-- something of what is wanted can be done now
abbrev pub can : {P : Type 0} → System P → (process : ℕ) → CellWant Name → Bool
can s p w = any_pass (λ place. is_some (done_in w s place)) (places_for p w)

-- whether what is wanted can be done, by a test; an action that wants nothing is tried
abbrev pub can_be_done : {N : Type 0} → (CellWant N → Bool) → Option (CellWant N) → Bool
can_be_done can None = true
can_be_done can (Some w) = can w

-- acting is waiting where nothing of what is wanted can be done
abbrev pub seen_as : Standing → (can : Bool) → Standing
seen_as ended can = ended
seen_as out_of_steps can = out_of_steps
seen_as out_of_actions can = out_of_actions
seen_as waiting can = waiting
seen_as local can = local
seen_as acting can = cond can acting waiting

-- How a process stands under a limit of steps, where a test says what can be done. Language reference, "Processes".
abbrev pub standing : {N P : Type 0} → Machine N P → (limit : ℕ) → (CellWant N → Bool) → P → Standing
standing machine limit can x = seen_as (machine.ready limit x) (can_be_done can (machine.wanted x))

-- of the process of this number
abbrev pub standing_of : {P : Type 0} → Machine Name P → System P → ℕ → Option Standing
standing_of machine s p = option_map (standing machine s.book.limits.steps (can s p)) (numbered_from_one p s.processes)

abbrev pub stands : {P : Type 0} → (Standing → Bool) → Machine Name P → System P → ℕ → Bool
stands test machine s p = any_pass test (list_of (λ x. x ∷ []) (standing_of machine s p))

abbrev pub set_process : {P : Type 0} → ℕ → P → System P → System P
set_process p x s = record s { processes = set_from_one p x s.processes }

-- with what an action has made: a port, or a process with its port and its reply cell; none where there is no module
-- of that number
abbrev pub with_made : {P : Type 0} → Machine Name P → (maker : P) → CellAction Name → System P → Option (System P)
with_made machine maker (make_port (Some n)) s = Some (record s { ports = s.ports ++ empty_port ∷ [] })
with_made machine maker (make_process code (Some made)) s =
    option_map
    (λ x. record s {
      processes = s.processes ++ x ∷ [];
      ports = s.ports ++ empty_port ∷ [];
      replies = s.replies ++ [] ∷ [];
    })
    (machine.begin code made.0 (inport_of machine made.1 maker))
with_made machine maker a s = Some s

-- the number of a place among those of its kind
abbrev pub number_of : Place → ℕ
number_of (port n) = n
number_of (reply_cell p) = p
number_of book = 0

-- An event: a process makes a local step, or an action at a place, which a select may choose among its ports.
-- Language reference, "The system".
pub data Event : Type 0 where
  steps : (process : ℕ) → Event
  acts : (process : ℕ) → Place → Event

-- the system behind an event, with what was done
pub record Moved (P : Type 0) : Type 0 where
  pub system : System P
  pub done : Option (CellAction Name)

abbrev pub local_event : {P : Type 0} → Machine Name P → ℕ → System P → Option (Moved P)
local_event machine p s =
    cond (stands is_local machine s p)
    (option_and_then (λ x. option_map (λ y. record { system = set_process p y s; done = None }) (machine.local_step x)) (numbered_from_one p s.processes))
    None

-- what an action that a process has done leaves, where this was at its place before
abbrev pub behind_action : {P : Type 0} → Machine Name P → ℕ → Place → System P → P → PlaceState (Cell Name) (CellReply Name) → CellAction Name → Option (Moved P)
behind_action machine p place s x h a =
    option_and_then
    (λ y. option_map (λ t. record { system = t; done = Some a }) (with_made machine x a (set_process p y (set_holding place (after a h) s))))
    (machine.answered x (number_of place) a)

-- what is wanted is done at a place, if it may be done there
abbrev pub act_at : {P : Type 0} → Machine Name P → ℕ → Place → System P → P → CellWant Name → Option (Moved P)
act_at machine p place s x w =
    cond (any_pass (same_place place) (places_for p w))
    (option_and_then (λ h. option_and_then (behind_action machine p place s x h) (done_at w h)) (holding_at place s))
    None

abbrev pub action_event : {P : Type 0} → Machine Name P → ℕ → Place → System P → Option (Moved P)
action_event machine p place s =
    cond (stands is_acting machine s p)
    (option_and_then (λ x. option_and_then (act_at machine p place s x) (machine.wanted x)) (numbered_from_one p s.processes))
    None

-- The system behind an event; none where the event can't be. Language reference, "The system".
abbrev pub step : {P : Type 0} → Machine Name P → Event → System P → Option (Moved P)
step machine (steps p) s = local_event machine p s
step machine (acts p place) s = action_event machine p place s

-- the system with the journal that led there
pub record Run (P : Type 0) : Type 0 where
  pub system : System P
  pub journal : List Entry

-- the entry of what was done at a place, behind a journal
abbrev pub with_entry : List Entry → Event → Option (CellAction Name) → List Entry
with_entry journal (acts p place) (Some a) = journal ++ entry_behind journal p place (recorded a) ∷ []
with_entry journal e a = journal

abbrev pub run_on : {P : Type 0} → Machine Name P → Event → Run P → Option (Run P)
run_on machine e r = option_map (λ m. record { system = m.system; journal = with_entry r.journal e m.done }) (step machine e r.system)

-- The run along a list of events; none where one of them can't be. Language reference, "The system".
abbrev pub run : {P : Type 0} → Machine Name P → List Event → Run P → Option (Run P)
run machine [] r = Some r
run machine (e ∷ events) r = option_and_then (run machine events) (run_on machine e r)

-- a run begins with an empty journal
abbrev pub start : {P : Type 0} → Machine Name P → Limits → Text → Run P
start machine limits arg = record { system = opening machine limits arg; journal = [] }

-- No process can step. Language reference, "The system".
abbrev pub can_step : {P : Type 0} → Machine Name P → System P → ℕ → Bool
can_step machine s p = stands is_local machine s p || stands is_acting machine s p

abbrev pub IsFinal : {P : Type 0} → Machine Name P → System P → Type 0
IsFinal machine s = (p : ℕ) → can_step machine s p ≡ false
