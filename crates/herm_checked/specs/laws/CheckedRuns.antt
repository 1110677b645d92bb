-- What is claimed of the runs of checked programs: of typed programs and their accepted modules, with a text as argument.
use Rattle.std.specs.Prelude.{◌≡◌, ◌↔◌, ◌++◌, ℕ, List, Some, IsTrue}
use Rattle.herm_model.specs.Typed.{is_text}
use Rattle.herm_model.specs.Values.{Name}
use Rattle.herm_journal.specs.NextNumbers.{Limits}
use Rattle.herm_journal.specs.Entries.{Text, Entry}
use Rattle.herm_journal.specs.Journals.{IsRising}
use Rattle.herm_system.specs.Machines.{Machine}
use Rattle.herm_system.specs.Systems.{System, Moved, Event, step, Run, run, start, opening, IsFinal}
use Rattle.herm_system.specs.ProcessFates.{fates}
use Rattle.herm_system.specs.Reports.{IsAlong, Report, IsReportOf}
use Rattle.herm_system.specs.RunTexts.{queues, Asked, plainly, text_of_run}
use Rattle.herm_system.specs.Statuses.{status_of}
use Rattle.herm_system.specs.Summary.{counts}
use Rattle.herm_system.specs.Sound.{IsSoundWith, IsSoundFor}
use Rattle.herm_runs.specs.laws.DiaryLaws.{EventSuits, SuitsAlong}
use Rattle.herm_source.specs.AcceptedRuns.{AreAccepted, FindsNeeds, Describes}
use Rattle.herm_source.specs.Checked.{IsChecked}
use Rattle.herm_source.specs.Instance.{IsSound, source}
use Rattle.herm_source.specs.Modules.{Program, Modules}
use Rattle.herm_source.specs.States.{State}
use Rattle.herm_source.specs.laws.NeedsLaws.{HasWellFormedBodies, StandsReached}
use Rattle.herm_source.specs.laws.SoundProcesses.{IsSoundProcess}
use Rattle.herm_sound.specs.laws.SoundLaws.{GoOnFrom, ClosesOpenPorts, AnswersOpenCalls, PortsCloseOnce, CallsAreAnsweredOnce, EventsAreBounded, RoundsSuffice}

-- A sound state in which each process stands where a control path leads.
abbrev pub IsSoundAndReached : Program → Modules → System (State Name) → Type 0
IsSoundAndReached program modules s = IsSound modules s × StandsReached program s

-- it is so of every checked program
abbrev pub OfChecked : (Program → Modules → Type 0) → Type 0
OfChecked Is = (exceptions : ℕ) (program : Program) (modules : Modules) → IsChecked exceptions program modules → Is program modules

-- Such a state is one in which each process is sound within itself and stands so.
abbrev pub SoundWithReach : Type 0
SoundWithReach = (program : Program) (modules : Modules) (s : System (State Name)) → IsSoundFor (source modules) (IsSoundProcess program modules) s ↔ IsSoundAndReached program modules s

-- What an event leaves of such a state is such a state, whatever the event. Language reference, "Sound states".
abbrev pub CheckedStepsKeepSound : Type 0
CheckedStepsKeepSound = OfChecked (λ program modules. (e : Event) (s : System (State Name)) (m : Moved (State Name)) → step (source modules) e s ≡ Some m → IsSoundAndReached program modules s → IsSoundAndReached program modules m.system)

-- The types of the ports stay, and those of new ports come behind them.
abbrev pub CheckedStepsKeepTypes : Type 0
CheckedStepsKeepTypes = OfChecked (λ program modules. (e : Event) (s : System (State Name)) (m : Moved (State Name)) → step (source modules) e s ≡ Some m
    → (types : List ℕ) → IsSoundWith (source modules) (IsSoundProcess program modules) types s → (new : List ℕ) × IsSoundWith (source modules) (IsSoundProcess program modules) (types ++ new) m.system)

-- Behind an event of any state of accepted modules, sound or not, each process stands where a control path leads, if each did before.
-- Language reference, "Control paths".
abbrev pub AcceptedStepsReach : Type 0
AcceptedStepsReach = (program : Program) (modules : Modules) → AreAccepted program modules → HasWellFormedBodies program → (e : Event) (s : System (State Name)) (m : Moved (State Name))
    → step (source modules) e s ≡ Some m → StandsReached program s → StandsReached program m.system

-- What comes in with an event of a sound state suits its process; so does what comes in along any events from the start.
-- Language reference, "Diaries".
abbrev pub CheckedEventsSuit : Type 0
CheckedEventsSuit = OfChecked (λ program modules. (e : Event) (s : System (State Name)) → IsSound modules s → EventSuits (source modules) e s)

abbrev pub CheckedRunsSuit : Type 0
CheckedRunsSuit = OfChecked (λ program modules. (limits : Limits) (argument : Text) (events : List Event) → IsTrue (is_text argument) → SuitsAlong (source modules) events (start (source modules) limits argument))

-- The state at the start is one. Language reference, "Opening state".
abbrev pub CheckedOpeningIsSound : Type 0
CheckedOpeningIsSound = OfChecked (λ program modules. (limits : Limits) (argument : Text) → IsTrue (is_text argument) → IsSoundAndReached program modules (opening (source modules) limits argument))

-- So is each state of each run, whatever the schedule.
abbrev pub CheckedRunsAreSound : Type 0
CheckedRunsAreSound = OfChecked (λ program modules. (limits : Limits) (argument : Text) (events : List Event) (r : Run (State Name)) → IsTrue (is_text argument)
    → run (source modules) events (start (source modules) limits argument) ≡ Some r → IsSoundAndReached program modules r.system)

-- Along every journal each state is sound, and every statement finds the facts that it needs: what a report claims of it.
-- Language reference, "Reports".
abbrev pub CheckedStatesAlong : Type 0
CheckedStatesAlong = OfChecked (λ program modules. (limits : Limits) (argument : Text) (journal : List Entry) (s : System (State Name)) → IsTrue (is_text argument)
    → IsAlong (source modules) (opening (source modules) limits argument) journal s → IsSound modules s × FindsNeeds modules s)

-- No process of such a state is stuck. Language reference, "Sound states".
abbrev pub CheckedNoneIsStuck : Type 0
CheckedNoneIsStuck = OfChecked (λ program modules. (s : System (State Name)) (p : ℕ) → IsSoundAndReached program modules s → GoOnFrom (source modules) s p)

-- In such a state ports that are closed were open, and calls that are answered are open and have no answer yet; and along a run no port
-- is closed twice, and no call is answered twice.
abbrev pub CheckedActionsAreDoneOnce : Type 0
CheckedActionsAreDoneOnce = OfChecked (λ program modules. ClosesOpenPorts (source modules) (IsSoundProcess program modules) × AnswersOpenCalls (source modules) (IsSoundProcess program modules) × PortsCloseOnce (source modules) × CallsAreAnsweredOnce (source modules))

-- The limits bound the events of a run, and so many rounds, and one more, reach its end. Language reference, "Rounds".
abbrev pub CheckedRunsEnd : Type 0
CheckedRunsEnd = OfChecked (λ program modules. EventsAreBounded (source modules) × RoundsSuffice (source modules))

-- The report of a run, with its journal and what its last state tells, where this is asked for. Language reference, "Reports".
abbrev pub report_of : {P : Type 0} → Machine Name P → (names : List Text) → Asked → Run P → Report
report_of machine names asked r = record {
  journal = r.journal;
  ends = fates machine r.system;
  queued = queues r.system;
  counts = counts machine r.system;
  status = status_of machine r.system;
  text = text_of_run names asked machine r;
}

-- Each run of a checked program to a final state, with its journal in order, is described by its report, whatever the schedule, the end, the
-- names of exceptions and what is asked for: in every state along it every statement finds what it needs, and the state is sound.
-- Language reference, "Reports".
abbrev pub CheckedRunsAreDescribed : Type 0
CheckedRunsAreDescribed = OfChecked (λ program modules. (limits : Limits) (argument : Text) (names : List Text) (asked : Asked) (events : List Event) (r : Run (State Name)) → IsTrue (is_text argument)
    → run (source modules) events (start (source modules) limits argument) ≡ Some r → IsRising r.journal → IsFinal (source modules) r.system
    → Describes modules limits argument names asked (report_of (source modules) names asked r))

-- So is each run with a report whose text is the same by all names of exceptions, as it is where none ends process 1.
abbrev pub CheckedReportsDescribe : Type 0
CheckedReportsDescribe = OfChecked (λ program modules. (limits : Limits) (argument : Text) (names : List Text) (report : Report) → IsTrue (is_text argument)
    → IsReportOf (source modules) limits argument report → Describes modules limits argument names plainly report)
