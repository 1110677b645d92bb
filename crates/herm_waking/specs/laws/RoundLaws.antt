-- What is claimed of rounds over the processes that can step, and of runs along a schedule.
use Rattle.std.specs.Prelude.{ℕ, suc, ◌≤◌, List, [], ◌∷◌, length, false, Some, option_map, ◌≡◌, IsTrue, ⊤}
use Rattle.herm_model.specs.Typed.{is_text}
use Rattle.herm_model.specs.Values.{Name, Kind}
use Rattle.herm_journal.specs.Entries.{Text}
use Rattle.herm_journal.specs.NextNumbers.{Limits}
use Rattle.herm_system.specs.Machines.{Machine}
use Rattle.herm_system.specs.Systems.{System, Event, steps, acts, Run, run, run_on, start, main_port, numbered_from_one, can_step, IsFinal}
use Rattle.herm_system.specs.Rounds.{rounds}
use Rattle.herm_runs.specs.laws.DiaryLaws.{WouldSuit, IsToldByDiary}
use Rattle.herm_sound.specs.SoundBeside.{IsSoundBeside}
use Rattle.herm_sound.specs.laws.SoundLaws.{most_events}
use Rattle.herm_waking.specs.Waking.{Kept, IsKept}
use Rattle.herm_waking.specs.KeptRounds.{Worked, first_worked, worked_on, stepped, kept_rounds, scheduled}

-- the process of an event
abbrev pub process_of : Event → ℕ
process_of (steps p) = p
process_of (acts p place) = p

-- A schedule is gone along: each number in order is that of a process that makes its event, or of one that is not there or cannot step
-- then, and nothing else is made. Language reference, "Rounds".
pub data GoesAlong {P : Type 0} (machine : Machine Name P) : List ℕ → Run P → Run P → Type 0 where
  at_end : (r : Run P) → GoesAlong machine [] r r
  passed : (p : ℕ) (ps : List ℕ) (r t : Run P) → can_step machine r.system p ≡ false → GoesAlong machine ps r t → GoesAlong machine (p ∷ ps) r t
  made : (p : ℕ) (ps : List ℕ) (e : Event) (r u t : Run P) → process_of e ≡ p → run_on machine e r ≡ Some u → GoesAlong machine ps u t → GoesAlong machine (p ∷ ps) r t

-- Where nothing is kept, no process can step.
abbrev pub NothingKeptIsFinal : {P : Type 0} → Machine Name P → Type 0
NothingKeptIsFinal {P} machine = (s : System P) (k : Kept) → IsKept machine s k → k.ready ≡ [] → IsFinal machine s

module _ {P : Type 0} (machine : Machine Name P) (Is : P → Type 0) (beside : P → List (ℕ × Kind)) where
  -- A run of a world: its state is sound, what is kept beside it is right, and no more processes were made than their limit.
  pub record IsWorked (w : Worked P) : Type 0 where
    pub sound : IsSoundBeside machine Is beside w.run.system
    pub kept : IsKept machine w.run.system w.kept
    pub within : length w.run.system.processes ≤ w.run.system.book.limits.processes

  -- It is one at the start, with any text as the argument, where one process may be made.
  abbrev pub StartIsWorked : Type 0
  StartIsWorked = (limits : Limits) (argument : Text) → IsTrue (is_text argument) → 1 ≤ limits.processes → IsWorked (first_worked machine limits argument)

  -- And behind each event.
  abbrev pub EventsAreWorked : Type 0
  EventsAreWorked = (e : Event) (w t : Worked P) → IsWorked w → worked_on machine e w ≡ Some t → IsWorked t × (run_on machine e w.run ≡ Some t.run)

  -- Rounds over the processes that are kept are the rounds of one worker. Language reference, "Rounds".
  abbrev pub KeptRoundsAreRounds : Type 0
  KeptRoundsAreRounds = (most : ℕ) (w : Worked P) → IsWorked w → option_map (λ (w : Worked P). w.run) (kept_rounds most machine w) ≡ rounds most machine w.run

  -- They end where no process can step.
  abbrev pub KeptRoundsEnd : Type 0
  KeptRoundsEnd = (most : ℕ) (w t : Worked P) → IsWorked w → kept_rounds most machine w ≡ Some t → IsWorked t × (t.kept.ready ≡ []) × IsFinal machine t.run.system

  -- A run along a schedule makes a step of each number in order whose process is there and can step then, and nothing else.
  abbrev pub SchedulesAreGoneAlong : Type 0
  SchedulesAreGoneAlong = (ps : List ℕ) (w t : Worked P) → IsWorked w → scheduled ps machine w ≡ Some t → GoesAlong machine ps w.run t.run × IsWorked t

  -- Each step can be made, so every schedule is gone along to its end.
  abbrev pub StepsCanBeMade : Type 0
  StepsCanBeMade = (p : ℕ) (w : Worked P) → IsWorked w → (t : Worked P) × (stepped machine p w ≡ Some t)

  abbrev pub SchedulesAreThere : Type 0
  SchedulesAreThere = (ps : List ℕ) (w : Worked P) → IsWorked w → (t : Worked P) × (scheduled ps machine w ≡ Some t)

  -- So many rounds, and one more, suffice from each state that events lead to from the start.
  abbrev pub KeptRoundsSuffice : Type 0
  KeptRoundsSuffice = (limits : Limits) (argument : Text) (events : List Event) (w : Worked P) → IsWorked w → run machine events (start machine limits argument) ≡ Some w.run
      → (t : Worked P) × (kept_rounds (suc (most_events limits)) machine w ≡ Some t)

  -- Whatever can be done in the state of a world suits the process that does it. Language reference, "Diaries".
  abbrev pub WorldsWouldSuit : Type 0
  WorldsWouldSuit = (w : Worked P) → IsWorked w → WouldSuit machine w.run.system

-- So each process of a run is what its diary says, but for names, with any text as the argument. Language reference, "Diaries".
abbrev pub WorldDiariesTell : {P Q : Type 0} → Machine Name P → Machine ⊤ Q → (P → Q) → Type 0
WorldDiariesTell {P} {Q} machine nameless without = (limits : Limits) (argument : Text) (main : P) (events : List Event) (r : Run P) → IsTrue (is_text argument) → machine.begin machine.main 1 main_port ≡ Some main
    → run machine events (start machine limits argument) ≡ Some r → (p : ℕ) (x : P) → numbered_from_one p r.system.processes ≡ Some x → IsToldByDiary nameless machine.main limits r.journal p (machine.module_number x) (without x)
