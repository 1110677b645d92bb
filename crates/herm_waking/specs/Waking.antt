-- The processes that can step, kept along a run: what an event changes of them, and who waits for a message at which port.
use Rattle.std.specs.Prelude.{ℕ, List, [], ◌∷◌, ◌++◌, Bool, cond, filter, length, slice_get, slice_set, Option, Some, None, ◌≡◌}
use Rattle.herm_model.specs.Lists.{IsIn, list_of, range}
use Rattle.herm_model.specs.Values.{Name}
use Rattle.herm_journal.specs.Actions.{make_port, make_process, put, close, answer}
use Rattle.herm_journal.specs.Entries.{Place, port, reply_cell, book}
use Rattle.herm_journal.specs.Messages.{CellAction}
use Rattle.herm_system.specs.Machines.{Machine}
use Rattle.herm_system.specs.Systems.{System, Event, steps, acts, numbered_from_one, can_step}
use Rattle.herm_system.specs.Kinds.{is_open_port}
use Rattle.herm_system.specs.ProcessFates.{Fate, waits, fate_of}
use Rattle.herm_waking.specs.Numbers.{inserted, removed}

-- The numbers of the processes that can step, rising. Language reference, "Processes".
abbrev pub able : {P : Type 0} → Machine Name P → System P → List ℕ
able machine s = filter (can_step machine s) (range 1 (length s.processes))

-- The ports at which a process waits for a message: none where it does not wait, or waits for a reply.
-- Language reference, "Processes".
abbrev pub ports_of_wait : Fate → List ℕ
ports_of_wait (waits ports) = ports
ports_of_wait _ = []

abbrev pub awaited : {P : Type 0} → Machine Name P → System P → ℕ → List ℕ
awaited machine s q = list_of (λ x. ports_of_wait (fate_of machine s (q, x))) (numbered_from_one q s.processes)

-- What is kept beside a system: the processes that can step, and at each port from port 0 on who was noted last as waiting there.
-- One who was noted need not wait there any more.
pub record Kept : Type 0 where
  pub ready : List ℕ
  pub waiters : List (Option ℕ)

-- a process noted at each of these ports that is open
abbrev pub noted_at : (opened : ℕ → Bool) → ℕ → List ℕ → List (Option ℕ) → List (Option ℕ)
noted_at opened q [] ws = ws
noted_at opened q (n ∷ ports) ws = noted_at opened q ports (cond (opened n) (slice_set ws n (Some q)) ws)

-- A process is looked at again, where it is said who can step, at which ports a process waits, and which are open: it is kept exactly
-- where it can step, and noted at each port at which it waits.
abbrev pub looked_by : (can : ℕ → Bool) → (awaits : ℕ → List ℕ) → (opened : ℕ → Bool) → ℕ → Kept → Kept
looked_by can awaits opened q k = record {
  ready = cond (can q) (inserted q k.ready) (removed q k.ready);
  waiters = noted_at opened q (awaits q) k.waiters;
}

abbrev pub all_looked_by : (can : ℕ → Bool) → (awaits : ℕ → List ℕ) → (opened : ℕ → Bool) → List ℕ → Kept → Kept
all_looked_by can awaits opened [] k = k
all_looked_by can awaits opened (q ∷ qs) k = all_looked_by can awaits opened qs (looked_by can awaits opened q k)

-- In a system.
abbrev pub looked_at : {P : Type 0} → Machine Name P → System P → ℕ → Kept → Kept
looked_at machine s q k = looked_by (can_step machine s) (awaited machine s) (is_open_port s) q k

abbrev pub all_looked_at : {P : Type 0} → Machine Name P → System P → List ℕ → Kept → Kept
all_looked_at machine s qs k = all_looked_by (can_step machine s) (awaited machine s) (is_open_port s) qs k

-- who was noted at a port
abbrev pub waiter_at : ℕ → List (Option ℕ) → List ℕ
waiter_at n ws = list_of (λ o. list_of (λ q. q ∷ []) o) (slice_get ws n)

-- The processes that an action wakes: who was noted at the port where a message was placed, the caller whose reply was answered,
-- and the process that was made. Language reference, "Actions".
abbrev pub woken_by : {N : Type 0} → Place → CellAction N → List (Option ℕ) → List ℕ
woken_by (port n) (put (Some number) m) ws = waiter_at n ws
woken_by (reply_cell caller) (answer call r) ws = caller ∷ []
woken_by book (make_process code (Some made)) ws = made.0 ∷ []
woken_by place a ws = []

-- Who is noted behind an action: nobody where a message was placed, where the port was closed, and at a port that was made.
abbrev pub waiters_behind : {N : Type 0} → Place → CellAction N → List (Option ℕ) → List (Option ℕ)
waiters_behind (port n) (put (Some number) m) ws = slice_set ws n None
waiters_behind (port n) (close count left) ws = slice_set ws n None
waiters_behind book (make_port (Some n)) ws = ws ++ None ∷ []
waiters_behind book (make_process code (Some made)) ws = ws ++ None ∷ []
waiters_behind place a ws = ws

-- What is kept behind an event: its process and those that it wakes are looked at again, and no other.
abbrev pub kept_by : {N : Type 0} → (can : ℕ → Bool) → (awaits : ℕ → List ℕ) → (opened : ℕ → Bool) → Event → Option (CellAction N) → Kept → Kept
kept_by can awaits opened (acts p place) (Some a) k =
    all_looked_by can awaits opened (p ∷ woken_by place a k.waiters) (record { ready = k.ready; waiters = waiters_behind place a k.waiters })
kept_by can awaits opened (acts p place) None k = k
kept_by can awaits opened (steps p) a k = all_looked_by can awaits opened (p ∷ []) k

-- In the system to which it has led.
abbrev pub kept_behind : {P : Type 0} → Machine Name P → (behind : System P) → Event → Option (CellAction Name) → Kept → Kept
kept_behind machine t e a k = kept_by (can_step machine t) (awaited machine t) (is_open_port t) e a k

-- What is kept at the start: process 1 is looked at, and nobody was noted at ports 0 and 1.
abbrev pub first_kept : {P : Type 0} → Machine Name P → System P → Kept
first_kept machine s = all_looked_at machine s (1 ∷ []) (record { ready = []; waiters = None ∷ None ∷ [] })

-- What is kept is right: these are the processes that can step, and at each port at which a process waits for a message it is noted.
pub record IsKept {P : Type 0} (machine : Machine Name P) (s : System P) (k : Kept) : Type 0 where
  pub ready : k.ready ≡ able machine s
  pub ports : length k.waiters ≡ length s.ports
  pub noted : (q n : ℕ) → IsIn n (awaited machine s q) → slice_get k.waiters n ≡ Some (Some q)
