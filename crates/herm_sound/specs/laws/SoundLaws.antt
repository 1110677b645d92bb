-- What is claimed of sound states, over any machine.
use Rattle.std.specs.Prelude.{◌≡◌, ◌↔◌, ◌+◌, ◌*◌, ◌≤◌, ◌<◌, ◌&&◌, ◌++◌, ℕ, suc, max, List, Bool, true, false, nat_eq, length, Some, is_some, IsTrue}
use Rattle.herm_model.specs.Lists.{IsIn, any_pass}
use Rattle.herm_model.specs.Typed.{is_text}
use Rattle.herm_model.specs.Values.{Name, Kind, Cell}
use Rattle.herm_journal.specs.Actions.{Action, to_take, to_hear, close, answer, hear}
use Rattle.herm_journal.specs.NextNumbers.{Limits}
use Rattle.herm_journal.specs.Entries.{Text, Place, port, reply_cell, same_place, Entry}
use Rattle.herm_journal.specs.Stamps.{IsStamped}
use Rattle.herm_journal.specs.Messages.{CellReply, CellWant}
use Rattle.herm_system.specs.Machines.{OpenCall, Machine, is_local, is_acting, greatest_actions}
use Rattle.herm_system.specs.Systems.{System, Moved, Event, steps, acts, step, Run, run, run_on, start, opening, numbered_from_one, places_for, done_in, can, stands, IsFinal}
use Rattle.herm_system.specs.Ledger.{HasLedger}
use Rattle.herm_system.specs.Rounds.{rounds}
use Rattle.herm_system.specs.Kinds.{unfinalised, replies_of, is_callmessage_of, has_open, is_open_port}
use Rattle.herm_system.specs.Reports.{IsAlong, IsSoOfAll}
use Rattle.herm_system.specs.Sound.{one_if, IsNumbered, IsSoundWith, IsSoundFor}
use Rattle.herm_system.specs.Summary.{how_many}
use Rattle.herm_sound.specs.Standing.{cells_alone}
use Rattle.herm_sound.specs.SoundBeside.{IsSoundBesideWith, IsSoundBeside}

-- A state is one of these. So is said any property of states, by the type of those that have it.
abbrev pub IsAmong : {J P : Type 0} → (J → P) → P → Type 0
IsAmong {J} state x = (j : J) × (state j ≡ x)

-- the entry is of a close of this port
abbrev pub is_close : {M R : Type 0} → Action M R → Bool
is_close (close count left) = true
is_close a = false

abbrev pub closes : ℕ → Entry → Bool
closes n e = same_place e.place (port n) && is_close e.action

-- the entry is of an answer to this call of this process
abbrev pub is_answer_to : {M R : Type 0} → ℕ → Action M R → Bool
is_answer_to k (answer call r) = nat_eq call k
is_answer_to k a = false

abbrev pub answers_call : (caller call : ℕ) → Entry → Bool
answers_call q k e = same_place e.place (reply_cell q) && is_answer_to k e.action

-- the entry is of hearing the reply to this call of this process
abbrev pub is_hear_of : {M R : Type 0} → ℕ → Action M R → Bool
is_hear_of k (hear call r) = nat_eq call k
is_hear_of k a = false

abbrev pub hears_call : (caller call : ℕ) → Entry → Bool
hears_call q k e = same_place e.place (reply_cell q) && is_hear_of k e.action

-- no more events than this can be: processes, at least one, and of each its steps and its actions
abbrev pub most_events : Limits → ℕ
most_events limits = max 1 limits.processes * (limits.steps + greatest_actions)

-- the replies to a call that wait
abbrev pub replies_to : {P : Type 0} → System P → (caller call : ℕ) → ℕ
replies_to s q k = how_many (λ (r : ℕ × CellReply Name). nat_eq r.0 k) (replies_of s q)

module _ {P : Type 0} (machine : Machine Name P) where
  -- Behind an event the journal has the stamps of the two clocks, if it had them before. Language reference, "Stamps".
  abbrev pub EventsKeepStamps : Type 0
  EventsKeepStamps = (e : Event) (r t : Run P) → run_on machine e r ≡ Some t → IsStamped r.journal → IsStamped t.journal

  -- Behind an event numbers agree, and the ledger holds, if they did before. Language reference, "The ledger".
  abbrev pub EventsKeepNumbers : Type 0
  EventsKeepNumbers = (e : Event) (s : System P) (m : Moved P) → step machine e s ≡ Some m → IsNumbered machine s → IsNumbered machine m.system

  abbrev pub EventsKeepLedger : Type 0
  EventsKeepLedger = (e : Event) (s : System P) (m : Moved P) → step machine e s ≡ Some m → HasLedger machine s → HasLedger machine m.system

  -- Behind an event what is so of each process is so, where it is so of each that begins and stays so.
  abbrev pub EventsKeepAll : (P → Type 0) → Type 0
  EventsKeepAll Is = (e : Event) (s : System P) (m : Moved P) → step machine e s ≡ Some m → IsSoOfAll Is s → IsSoOfAll Is m.system

  -- What a process waits for, where nothing of what it wants can be done now: a message at ports that are all open, or the reply to its open
  -- call, of which one callmessage is not finalised. Nothing else that is wanted waits. Language reference, "Sound states".
  abbrev pub WaitsFor : System P → (process : ℕ) → P → CellWant Name → Type 0
  WaitsFor s p x (to_take ports) = (n : ℕ) → IsIn n ports → is_open_port s n ≡ true
  WaitsFor s p x to_hear = (call : OpenCall) × (machine.open_call x ≡ Some call) × (how_many (is_callmessage_of p call.number) (unfinalised machine s) ≡ 1)
  WaitsFor s p x want = ⊥

  -- A process that is to make a local step makes it; one that can act can do so at some place, and at each place where something of
  -- what it wants can be done; and one that can do nothing of what it wants waits for what may come. Language reference, "Sound states".
  pub record GoOnFrom (s : System P) (p : ℕ) : Type 0 where
    pub local_steps : IsTrue (stands is_local machine s p) → (m : Moved P) × (step machine (steps p) s ≡ Some m)
    pub actions : IsTrue (stands is_acting machine s p) → (place : Place) × (m : Moved P) × (step machine (acts p place) s ≡ Some m)
    pub places : IsTrue (stands is_acting machine s p) → (x : P) (want : CellWant Name) (place : Place) → numbered_from_one p s.processes ≡ Some x → machine.wanted x ≡ Some want
        → IsTrue (any_pass (same_place place) (places_for p want)) → IsTrue (is_some (done_in want s place)) → (m : Moved P) × (step machine (acts p place) s ≡ Some m)
    pub waits : (x : P) (want : CellWant Name) → numbered_from_one p s.processes ≡ Some x → machine.wanted x ≡ Some want → can s p want ≡ false → WaitsFor s p x want

  -- Along a run each port that was made was closed once where it is not open, and not yet where it is; and no port was closed twice.
  -- Language reference, "Ports".
  abbrev pub PortsCloseOnce : Type 0
  PortsCloseOnce = (limits : Limits) (argument : Text) (events : List Event) (r : Run P) → IsTrue (is_text argument) → run machine events (start machine limits argument) ≡ Some r → (n : ℕ)
      → (n < length r.system.ports → how_many (closes n) r.journal + one_if (is_open_port r.system n) ≡ 1) × (how_many (closes n) r.journal ≤ 1)

  -- Along a run no call is answered twice; each that is open was answered once, or has its callmessage and was not; and each answer was heard
  -- once, or is the one reply that waits. Language reference, "Calls".
  abbrev pub CallsAreAnsweredOnce : Type 0
  CallsAreAnsweredOnce = (limits : Limits) (argument : Text) (events : List Event) (r : Run P) → IsTrue (is_text argument) → run machine events (start machine limits argument) ≡ Some r
      → (caller call : ℕ) → (how_many (answers_call caller call) r.journal ≤ 1)
      × (has_open machine r.system caller call ≡ true → how_many (answers_call caller call) r.journal + how_many (is_callmessage_of caller call) (unfinalised machine r.system) ≡ 1)
      × (how_many (hears_call caller call) r.journal + replies_to r.system caller call ≡ how_many (answers_call caller call) r.journal)

  -- A run has at most so many events as its limits say. Language reference, "Limits of a run".
  abbrev pub EventsAreBounded : Type 0
  EventsAreBounded = (limits : Limits) (argument : Text) (events : List Event) (r : Run P) → run machine events (start machine limits argument) ≡ Some r → length events ≤ most_events limits

  -- So many rounds suffice, and one more: they lead to a state in which no process can step. Language reference, "Rounds".
  abbrev pub RoundsSuffice : Type 0
  RoundsSuffice = (limits : Limits) (argument : Text) → IsTrue (is_text argument) → 1 ≤ limits.processes → (t : Run P) × (rounds (suc (most_events limits)) machine (start machine limits argument) ≡ Some t) × IsFinal machine t.system

module _ {P : Type 0} (machine : Machine Name P) (Is : P → Type 0) (beside : P → List (ℕ × Kind)) where
  -- What an event leaves of a sound state is a sound state, with the values that processes have beside their cells.
  -- Language reference, "Sound states".
  abbrev pub StepsKeepSound : Type 0
  StepsKeepSound = (e : Event) (s : System P) (m : Moved P) → step machine e s ≡ Some m → IsSoundBeside machine Is beside s → IsSoundBeside machine Is beside m.system

  -- The types of the ports stay, and those of new ports come behind them.
  abbrev pub StepsKeepTypes : Type 0
  StepsKeepTypes = (e : Event) (s : System P) (m : Moved P) → step machine e s ≡ Some m → (types : List ℕ) → IsSoundBesideWith machine Is beside types s → (new : List ℕ) × IsSoundBesideWith machine Is beside (types ++ new) m.system

  -- So is what a list of events leaves.
  abbrev pub RunsKeepSound : Type 0
  RunsKeepSound = (events : List Event) (r t : Run P) → run machine events r ≡ Some t → IsSoundBeside machine Is beside r.system → IsSoundBeside machine Is beside t.system

  -- The state at the start is sound, with any text as the argument. Language reference, "Opening state".
  abbrev pub OpeningIsSound : Type 0
  OpeningIsSound = (limits : Limits) (argument : Text) → IsTrue (is_text argument) → IsSoundBeside machine Is beside (opening machine limits argument)

  -- So each state that events lead to is sound, and each along a journal.
  abbrev pub RunsAreSound : Type 0
  RunsAreSound = (limits : Limits) (argument : Text) (events : List Event) (r : Run P) → IsTrue (is_text argument) → run machine events (start machine limits argument) ≡ Some r → IsSoundBeside machine Is beside r.system

  abbrev pub StatesAlongAreSound : Type 0
  StatesAlongAreSound = (limits : Limits) (argument : Text) (journal : List Entry) (s : System P) → IsTrue (is_text argument) → IsAlong machine (opening machine limits argument) journal s → IsSoundBeside machine Is beside s

module _ {P : Type 0} (machine : Machine Name P) (Is : P → Type 0) where
  -- Where processes have no values but their cells, a sound state is one with nothing beside.
  abbrev pub CellsAreAll : Type 0
  CellsAreAll = (types : List ℕ) (s : System P) → IsSoundWith machine Is types s ↔ IsSoundBesideWith machine Is cells_alone types s

  -- In a sound state no process is stuck. Language reference, "Sound states".
  abbrev pub NoneIsStuck : Type 0
  NoneIsStuck = (s : System P) (p : ℕ) → IsSoundFor machine Is s → GoOnFrom machine s p

  -- In a sound state a port that is closed was open, and a call that is answered is open, with no reply to it so far and then one, and no
  -- callmessage of it that could be answered again. Language reference, "Sound states".
  abbrev pub ClosesOpenPorts : Type 0
  ClosesOpenPorts = (s : System P) (p n count : ℕ) (left : List (Cell Name)) (m : Moved P) → IsSoundFor machine Is s → step machine (acts p (port n)) s ≡ Some m → m.done ≡ Some (close count left)
      → (is_open_port s n ≡ true) × (is_open_port m.system n ≡ false)

  abbrev pub AnswersOpenCalls : Type 0
  AnswersOpenCalls = (s : System P) (p q k : ℕ) (r : CellReply Name) (m : Moved P) → IsSoundFor machine Is s → step machine (acts p (reply_cell q)) s ≡ Some m → m.done ≡ Some (answer k r)
      → (has_open machine s q k ≡ true) × (replies_to s q k ≡ 0) × (replies_to m.system q k ≡ 1) × (how_many (is_callmessage_of q k) (unfinalised machine m.system) ≡ 0)
