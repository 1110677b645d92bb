-- Laws of places, rounds, runs and journals, as statements about a machine.
use Rattle.std.specs.Prelude.{ℕ, ◌≤◌, List, false, Some, ◌≡◌, ⊤}
use Rattle.herm_model.specs.Values.{Name, Cell}
use Rattle.herm_model.specs.ValueTexts.{text_of}
use Rattle.herm_journal.specs.Actions.{to_take, to_hear}
use Rattle.herm_journal.specs.NextNumbers.{Limits}
use Rattle.herm_journal.specs.PlaceStates.{PlaceState, IsEnabled, after}
use Rattle.herm_journal.specs.Entries.{Text, Place, Entry, recorded, recorded_state}
use Rattle.herm_journal.specs.Journals.{IsJournalOf, ordered, part_of_process, part_of_place}
use Rattle.herm_journal.specs.Histories.{first_recorded_state, at_start, replay, IsLegal}
use Rattle.herm_journal.specs.Stamps.{IsStamped}
use Rattle.herm_journal.specs.Messages.{CellReply, CellWant, CellAction}
use Rattle.herm_system.specs.Machines.{Machine}
use Rattle.herm_system.specs.Systems.{System, Event, Run, run, start, opening, main_port, done_at, holding_at, numbered_from_one, can, first_message, IsFinal}
use Rattle.herm_system.specs.Rounds.{rounds}
use Rattle.herm_system.specs.Ledger.{HasLedger, IsMadeOnce}
use Rattle.herm_system.specs.Sound.{IsNumbered}
use Rattle.herm_system.specs.Reports.{IsAlong}

-- What is done at a place fits what is there.
abbrev pub DoneFits : Type 0
DoneFits = (w : CellWant Name) (h : PlaceState (Cell Name) (CellReply Name)) (a : CellAction Name) → done_at w h ≡ Some a → IsEnabled h a

-- An action that fits what is at a place fits, as it is recorded, what the place's history tells; and so does what it
-- leaves.
abbrev pub RecordsFit : Type 0
RecordsFit = (h : PlaceState (Cell Name) (CellReply Name)) (a : CellAction Name) → IsEnabled h a → IsEnabled (recorded_state h) (recorded a)

abbrev pub RecordsLead : Type 0
RecordsLead = (h : PlaceState (Cell Name) (CellReply Name)) (a : CellAction Name) → recorded_state (after a h) ≡ after (recorded a) (recorded_state h)

-- what is wanted may have to be waited for: a message that is to come, or a reply
abbrev pub MayWait : {N : Type 0} → CellWant N → Type 0
MayWait (to_take ports) = ⊤
MayWait to_hear = ⊤
MayWait _ = ⊥

module _ {P : Type 0} (machine : Machine Name P) where
  -- this process is main's as it begins
  abbrev pub IsMain : P → Type 0
  IsMain first = machine.begin machine.main 1 main_port ≡ Some first

  -- What rounds lead to is led to by a list of events.
  abbrev pub RoundsAreRuns : Type 0
  RoundsAreRuns = (most : ℕ) (r t : Run P) → rounds most machine r ≡ Some t → (events : List Event) × (run machine events r ≡ Some t)

  -- The journal of a run has the stamps of the two clocks.
  abbrev pub RunsAreStamped : Type 0
  RunsAreStamped = (limits : Limits) (argument : Text) (events : List Event) (r : Run P) → run machine events (start machine limits argument) ≡ Some r → IsStamped r.journal

  -- Every state that a run of modules with a main leads to has the ledger: a cell that was made is held, queued or
  -- finalised, whatever the schedule.
  abbrev pub RunsKeepLedger : Type 0
  RunsKeepLedger = (limits : Limits) (argument : Text) (first : P) (events : List Event) (r : Run P) → IsMain first → run machine events (start machine limits argument) ≡ Some r → HasLedger machine r.system

  -- In every such state the numbers of processes, reply cells and the book agree.
  abbrev pub RunsAreNumbered : Type 0
  RunsAreNumbered = (limits : Limits) (argument : Text) (first : P) (events : List Event) (r : Run P) → IsMain first → run machine events (start machine limits argument) ≡ Some r → IsNumbered machine r.system

  -- Where numbers agree, no name was made twice.
  abbrev pub NamesAreMadeOnce : Type 0
  NamesAreMadeOnce = (s : System P) → IsNumbered machine s → IsMadeOnce machine s

  -- In every state of a run the entries at a place are a legal history from what the place holds at the start, and tell
  -- what it holds.
  abbrev pub HistoriesTell : Type 0
  HistoriesTell = (limits : Limits) (argument : Text) (events : List Event) (r : Run P) → run machine events (start machine limits argument) ≡ Some r
      → (place : Place) (h : PlaceState (Cell Name) (CellReply Name)) → holding_at place r.system ≡ Some h
      → IsLegal (part_of_place place r.journal) (at_start (first_recorded_state limits (text_of (first_message argument)) place))
      × ((replay (part_of_place place r.journal) (at_start (first_recorded_state limits (text_of (first_message argument)) place))).holding ≡ recorded_state h)

  -- Where so many rounds suffice, those of modules with a main, where at least one process may be made, lead to a final state.
  abbrev pub RoundsAreFinal : Type 0
  RoundsAreFinal = (most : ℕ) (limits : Limits) (argument : Text) (first : P) (t : Run P) → IsMain first → 1 ≤ limits.processes
      → rounds most machine (start machine limits argument) ≡ Some t → IsFinal machine t.system

  -- A run's entries in order fit its diaries and histories.
  abbrev pub RunsAreJournals : Type 0
  RunsAreJournals = (limits : Limits) (argument : Text) (first : P) (events : List Event) (r : Run P) → IsMain first
      → run machine events (start machine limits argument) ≡ Some r → IsJournalOf (ordered r.journal) (λ p. part_of_process p r.journal) (λ s. part_of_place s r.journal)

  -- Every state along every journal has the ledger, and no name was made twice in it: what a report claims of cells.
  abbrev pub LedgerAlong : Type 0
  LedgerAlong = (limits : Limits) (argument : Text) (first : P) (journal : List Entry) (s : System P) → IsMain first
      → IsAlong machine (opening machine limits argument) journal s → HasLedger machine s × IsMadeOnce machine s

  -- In every such state only a process that wants to take or to hear waits: whatever else a process wants can be done.
  abbrev pub OnlyTakesAndHearsWait : Type 0
  OnlyTakesAndHearsWait = (limits : Limits) (argument : Text) (first : P) (events : List Event) (r : Run P) → IsMain first → run machine events (start machine limits argument) ≡ Some r
      → (p : ℕ) (x : P) (want : CellWant Name) → numbered_from_one p r.system.processes ≡ Some x → machine.wanted x ≡ Some want → can r.system p want ≡ false → MayWait want
