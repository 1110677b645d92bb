-- What is claimed of processes along their diaries.
use Rattle.std.specs.Prelude.{ℕ, List, [], ◌∷◌, true, Some, ◌≡◌, ◌⊎◌, ◌↔◌, ⊤}
use Rattle.herm_journal.specs.Renaming.{rename_action, forget_name}
use Rattle.herm_model.specs.Lists.{IsIn, any_pass}
use Rattle.herm_model.specs.Values.{Name, Cell, cell, an_inport, no_parts}
use Rattle.herm_journal.specs.Actions.{make_process}
use Rattle.herm_journal.specs.NextNumbers.{Limits}
use Rattle.herm_journal.specs.PlaceStates.{PlaceState}
use Rattle.herm_journal.specs.Entries.{Text, Place, same_place, Entry}
use Rattle.herm_journal.specs.Journals.{part_of_process}
use Rattle.herm_journal.specs.Messages.{CellReply, CellWant, CellAction}
use Rattle.herm_system.specs.Machines.{Machine}
use Rattle.herm_system.specs.Systems.{System, Moved, Event, steps, acts, Run, run, run_on, step, start, main_port, number_of, numbered_from_one, places_for, holding_at, done_at}
use Rattle.herm_system.specs.Suiting.{Suits}
use Rattle.herm_system.specs.PutAside.{IsToldBy}
use Rattle.herm_system.specs.DiaryStates.{IsAfter}

-- What comes in with an event suits the process: its message or reply is one that it waits for, and what is left with
-- a close is well made.
abbrev pub EventSuits : {P : Type 0} → Machine Name P → Event → System P → Type 0
EventSuits machine (steps p) s = ⊤
EventSuits {P} machine (acts p place) s =
    (x : P) (m : Moved P) (a : CellAction Name) → numbered_from_one p s.processes ≡ Some x → step machine (acts p place) s ≡ Some m → m.done ≡ Some a → Suits machine x (number_of place) a

-- The same of each event of a run: no entry would be put aside. Language reference, "Diaries".
abbrev pub SuitsAlong : {P : Type 0} → Machine Name P → List Event → Run P → Type 0
SuitsAlong machine [] r = ⊤
SuitsAlong {P} machine (e ∷ events) r = EventSuits machine e r.system × ((t : Run P) → run_on machine e r ≡ Some t → SuitsAlong machine events t)

-- What can be done of what a process wants, at a place where that may be done, suits it; whether the process goes on from
-- there is not asked.
abbrev pub WouldSuit : {P : Type 0} → Machine Name P → System P → Type 0
WouldSuit {P} machine s = (p : ℕ) (x : P) (w : CellWant Name) (place : Place) (h : PlaceState (Cell Name) (CellReply Name)) (action : CellAction Name) → numbered_from_one p s.processes ≡ Some x → machine.wanted x ≡ Some w
    → any_pass (same_place place) (places_for p w) ≡ true → holding_at place s ≡ Some h → done_at w h ≡ Some action → Suits machine x (number_of place) action

-- The process runs this module at this port: process 1 runs main at port 1, another what the entry says that made it.
abbrev pub IsBorn : (main : ℕ) → List Entry → (process code port : ℕ) → Type 0
IsBorn main journal p code port =
    ((p ≡ 1) × (code ≡ main) × (port ≡ 1)) ⊎ ((e : Entry) × IsIn e journal × (e.action ≡ make_process code (Some (p, port))))

-- The process of this number is what its diary in the journal says, but for names: it is born there, begins so without
-- names, and comes to this state without names. Language reference, "Diaries".
pub record IsToldByDiary {Q : Type 0} (nameless : Machine ⊤ Q) (main : ℕ) (limits : Limits) (journal : List Entry) (p code : ℕ) (now : Q) : Type 0 where
  pub port : ℕ
  pub first : Q
  pub local_steps : ℕ
  pub born : IsBorn main journal p code port
  pub begins : nameless.begin code p (cell tt (an_inport port) no_parts) ≡ Some first
  pub comes : IsAfter nameless limits.steps first (part_of_process p journal) local_steps now

-- Where what comes in suits along a run, each process is what its diary says, but for names.
-- Language reference, "Diaries".
abbrev pub DiariesTell : {P Q : Type 0} → Machine Name P → Machine ⊤ Q → (P → Q) → Type 0
DiariesTell {P} {Q} machine nameless without = (limits : Limits) (argument : Text) (main : P) (events : List Event) (r : Run P) → machine.begin machine.main 1 main_port ≡ Some main
    → run machine events (start machine limits argument) ≡ Some r → SuitsAlong machine events (start machine limits argument)
    → (p : ℕ) (x : P) → numbered_from_one p r.system.processes ≡ Some x → IsToldByDiary nameless machine.main limits r.journal p (machine.module_number x) (without x)

-- What comes in suits a process exactly where it suits the process without names.
abbrev pub SuitsWithoutNames : {P Q : Type 0} → Machine Name P → Machine ⊤ Q → (P → Q) → Type 0
SuitsWithoutNames {P} {Q} machine nameless without = (x : P) (at : ℕ) (a : CellAction Name) → Suits machine x at a ↔ Suits nameless (without x) at (rename_action forget_name a)

-- An entry tells of one action: where two have its texts, answer what is wanted and suit, they are the same.
-- Language reference, "Diaries".
abbrev pub EntriesTellOneAction : {P : Type 0} → Machine ⊤ P → Type 0
EntriesTellOneAction {P} machine = (x : P) (e : Entry) (a b : CellAction ⊤) → IsToldBy machine x e a → IsToldBy machine x e b → a ≡ b

-- A diary, with so many local steps behind it, leads to one state. Language reference, "Diaries".
abbrev pub DiariesLeadToOneState : {P : Type 0} → Machine ⊤ P → Type 0
DiariesLeadToOneState {P} machine = (limit : ℕ) (s t u : P) (entries : List Entry) (n : ℕ) → IsAfter machine limit s entries n t → IsAfter machine limit s entries n u → t ≡ u
