-- What is claimed of the processes that an event wakes, where states are sound.
use Rattle.std.specs.Prelude.{ℕ, List, Some, ◌≡◌}
use Rattle.herm_model.specs.Lists.{IsIn}
use Rattle.herm_model.specs.Typed.{is_text}
use Rattle.std.specs.Prelude.{IsTrue}
use Rattle.herm_model.specs.Values.{Name, Kind}
use Rattle.herm_journal.specs.Actions.{to_take, to_hear, make_process, put, answer}
use Rattle.herm_journal.specs.Entries.{Text, Place, port, reply_cell, book}
use Rattle.herm_journal.specs.Messages.{CellWant, CellAction}
use Rattle.herm_journal.specs.NextNumbers.{Limits}
use Rattle.herm_system.specs.Machines.{Machine, acting}
use Rattle.herm_system.specs.Systems.{System, Moved, steps, acts, Event, step, opening, numbered_from_one, standing_of}
use Rattle.herm_sound.specs.SoundBeside.{IsSoundBeside}
use Rattle.herm_waking.specs.Waking.{Kept, kept_behind, first_kept, IsKept}

module _ {P : Type 0} (machine : Machine Name P) where
  -- the process wants to take a message from this port, perhaps among others
  abbrev pub LooksAt : System P → ℕ → (process : ℕ) → Type 0
  LooksAt s n q = (x : P) × (ports : List ℕ) × (numbered_from_one q s.processes ≡ Some x) × (machine.wanted x ≡ Some (to_take ports)) × IsIn n ports

  -- What an action may wake besides the process that does it: where a message is placed, the process that looks at that port; where
  -- a call is answered, its caller; and the process that is made. A close, an answer by closing, a take, a hear, and a put that comes
  -- back wake nobody else. Language reference, "Actions".
  abbrev pub MayWake : System P → Place → CellAction Name → (process : ℕ) → Type 0
  MayWake s (port n) (put (Some number) m) q = LooksAt s n q
  MayWake s (reply_cell caller) (answer call r) q = q ≡ caller
  MayWake s book (make_process code (Some made)) q = q ≡ made.0
  MayWake s place a q = ⊥

-- What an action ends: the wait of a process that wants to take from the port where a message was placed, and of the caller that wants to
-- hear where its call was answered.
abbrev pub EndsWait : Place → CellAction Name → (process : ℕ) → CellWant Name → Type 0
EndsWait (port n) (put (Some number) m) q (to_take ports) = IsIn n ports
EndsWait (reply_cell caller) (answer call r) q to_hear = caller ≡ q
EndsWait place a q w = ⊥

module _ {P : Type 0} (machine : Machine Name P) (Is : P → Type 0) (beside : P → List (ℕ × Kind)) where
  -- At most one process looks at a port. Language reference, "Sound states".
  abbrev pub OneLooksAtAPort : Type 0
  OneLooksAtAPort = (s : System P) → IsSoundBeside machine Is beside s → (n p q : ℕ) → LooksAt machine s n p → LooksAt machine s n q → p ≡ q

  -- A local step changes how its process stands, and no other. Language reference, "Processes".
  abbrev pub LocalStepsWakeNobody : Type 0
  LocalStepsWakeNobody = (s : System P) (p : ℕ) (m : Moved P) → IsSoundBeside machine Is beside s → step machine (steps p) s ≡ Some m
      → (q : ℕ) → (p ≡ q → ⊥) → standing_of machine m.system q ≡ standing_of machine s q

  -- All whom an action may not wake stand as before. Language reference, "Processes".
  abbrev pub OthersStandAsBefore : Type 0
  OthersStandAsBefore = (s : System P) (p : ℕ) (place : Place) (m : Moved P) (a : CellAction Name) → IsSoundBeside machine Is beside s → step machine (acts p place) s ≡ Some m → m.done ≡ Some a
      → (q : ℕ) → (p ≡ q → ⊥) → (MayWake machine s place a q → ⊥) → standing_of machine m.system q ≡ standing_of machine s q

  -- Whose wait an action ends can act behind it. Language reference, "Processes".
  abbrev pub WaitsEnd : Type 0
  WaitsEnd = (s : System P) (p : ℕ) (place : Place) (m : Moved P) (a : CellAction Name) → IsSoundBeside machine Is beside s → step machine (acts p place) s ≡ Some m → m.done ≡ Some a
      → (q : ℕ) (x : P) (w : CellWant Name) → (p ≡ q → ⊥) → numbered_from_one q s.processes ≡ Some x → machine.wanted x ≡ Some w → machine.ready s.book.limits.steps x ≡ acting → EndsWait place a q w
      → standing_of machine m.system q ≡ Some acting

  -- What is kept right stays right: looking again at the process of an event and at those that it wakes suffices, where who is woken
  -- at a port is who was noted there last. Language reference, "Processes".
  abbrev pub EventsKeepReady : Type 0
  EventsKeepReady = (e : Event) (s : System P) (m : Moved P) (k : Kept) → IsSoundBeside machine Is beside s → step machine e s ≡ Some m
      → IsKept machine s k → IsKept machine m.system (kept_behind machine m.system e m.done k)

  -- At the start what is kept is right.
  abbrev pub FirstIsKept : Type 0
  FirstIsKept = (limits : Limits) (argument : Text) → IsTrue (is_text argument) → IsKept machine (opening machine limits argument) (first_kept machine (opening machine limits argument))
