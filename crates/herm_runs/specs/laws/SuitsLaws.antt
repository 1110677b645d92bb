-- What is claimed of what comes in, where states are sound.
use Rattle.std.specs.Prelude.{ℕ, List, ◌++◌, flat_map, Some, ◌≡◌, ⊤}
use Rattle.herm_model.specs.Lists.{IsIn}
use Rattle.herm_model.specs.Values.{Name, an_inport}
use Rattle.herm_journal.specs.Actions.{to_take}
use Rattle.herm_journal.specs.NextNumbers.{Limits}
use Rattle.herm_journal.specs.Entries.{Text}
use Rattle.herm_system.specs.Machines.{Machine}
use Rattle.herm_system.specs.Systems.{System, Event, Run, run, start, main_port, numbered_from_one}
use Rattle.herm_system.specs.Kinds.{typed_held}
use Rattle.herm_system.specs.Sound.{IsSoundFor}
use Rattle.herm_system.specs.RunTexts.{Asked}
use Rattle.herm_system.specs.Reports.{Report, DescribesRun}
use Rattle.herm_runs.specs.laws.DiaryLaws.{EventSuits, SuitsAlong, WouldSuit, IsToldByDiary}

-- A process that is sound within itself looks for messages only at ports whose inports it holds: at each port from which it
-- wants to take, the type is that of an inport that it has there.
abbrev pub LooksAtHeld : {P : Type 0} → Machine Name P → (P → Type 0) → Type 0
LooksAtHeld {P} machine IsSoundWithin = (x : P) (ports : List ℕ) (n : ℕ) → IsSoundWithin x → machine.wanted x ≡ Some (to_take ports) → IsIn n ports
    → (t : ℕ) × (machine.port_type x n ≡ Some t) × IsIn (t, an_inport n) (flat_map (typed_held machine.types) (machine.held x))

-- In a sound state what comes in with an event suits its process. Language reference, "Diaries".
abbrev pub SoundStatesSuit : {P : Type 0} → Machine Name P → (P → Type 0) → Type 0
SoundStatesSuit {P} machine IsSoundWithin = (e : Event) (s : System P) → IsSoundFor machine IsSoundWithin s → EventSuits machine e s

-- What can be done there would suit too, whether or not the process goes on from it.
abbrev pub SoundStatesWouldSuit : {P : Type 0} → Machine Name P → (P → Type 0) → Type 0
SoundStatesWouldSuit {P} machine IsSoundWithin = (s : System P) → IsSoundFor machine IsSoundWithin s → WouldSuit machine s

-- each state that a beginning of these events leads to is sound
abbrev pub AreSoundAlong : {P : Type 0} → Machine Name P → (P → Type 0) → List Event → Run P → Type 0
AreSoundAlong {P} machine IsSoundWithin events r = (before rest : List Event) (t : Run P) → events ≡ before ++ rest → run machine before r ≡ Some t → IsSoundFor machine IsSoundWithin t.system

-- So what comes in suits along a run of sound states.
abbrev pub SoundRunsSuit : {P : Type 0} → Machine Name P → (P → Type 0) → Type 0
SoundRunsSuit {P} machine IsSoundWithin = (events : List Event) (r : Run P) → AreSoundAlong machine IsSoundWithin events r → SuitsAlong machine events r

-- Along a run of sound states each process is what its diary says, but for names. Language reference, "Diaries".
abbrev pub SoundDiariesTell : {P Q : Type 0} → Machine Name P → Machine ⊤ Q → (P → Q) → (P → Type 0) → Type 0
SoundDiariesTell {P} {Q} machine nameless without IsSoundWithin = (limits : Limits) (argument : Text) (main : P) (events : List Event) (r : Run P) → machine.begin machine.main 1 main_port ≡ Some main
    → run machine events (start machine limits argument) ≡ Some r → AreSoundAlong machine IsSoundWithin events (start machine limits argument)
    → (p : ℕ) (x : P) → numbered_from_one p r.system.processes ≡ Some x → IsToldByDiary nameless machine.main limits r.journal p (machine.module_number x) (without x)

-- So where a report describes a run, each process of its final state is what its diary says, but for names.
-- Language reference, "Diaries".
abbrev pub DescribedDiariesTell : {P Q : Type 0} → Machine Name P → Machine ⊤ Q → (P → Q) → (IsSoundWithin FindsNeeds : P → Type 0) → Type 0
DescribedDiariesTell {P} {Q} machine nameless without IsSoundWithin FindsNeeds = (limits : Limits) (argument : Text) (names : List Text) (asked : Asked) (report : Report) (main : P) → machine.begin machine.main 1 main_port ≡ Some main
    → (d : DescribesRun machine IsSoundWithin FindsNeeds limits argument names asked report)
    → (p : ℕ) (x : P) → numbered_from_one p (d.final).processes ≡ Some x → IsToldByDiary nameless machine.main limits report.journal p (machine.module_number x) (without x)
