-- What is claimed of the worlds of images: who wakes whom, rounds and schedules, reports, and the same without names.
use Rattle.std.specs.Prelude.{◌≡◌, ℕ, List, [], Some, IsTrue}
use Rattle.herm_model.specs.Typed.{is_text}
use Rattle.herm_model.specs.Values.{Name}
use Rattle.herm_journal.specs.Entries.{Text}
use Rattle.herm_journal.specs.NextNumbers.{Limits}
use Rattle.herm_system.specs.Reports.{DescribesRun}
use Rattle.herm_system.specs.RunTexts.{Asked}
use Rattle.herm_system.specs.Systems.{Event, Run, run, start, main_port, numbered_from_one}
use Rattle.herm_runs.specs.laws.DiaryLaws.{IsToldByDiary}
use Rattle.herm_runs.specs.laws.ProcessLaws.{ForgetsNames}
use Rattle.herm_instructions.specs.Images.{Image}
use Rattle.herm_code_machine.specs.CodeInstance.{code_machine, nameless_code}
use Rattle.herm_code_machine.specs.CodeRenaming.{forget_code}
use Rattle.herm_code_machine.specs.CodeStates.{CodeState}
use Rattle.herm_code_machine.specs.ReadyCode.{ReadyImage}
use Rattle.herm_waking.specs.DiaryKept.{BeginsAtDiary, LocalStepsKeepDiary, ActionsKeepDiary, DiaryStampsAreBetween}
use Rattle.herm_waking.specs.KeptRounds.{Worked}
use Rattle.herm_waking.specs.UnnamedReport.{CountsWithoutNames}
use Rattle.herm_waking.specs.laws.ClockLaws.{RunClocksAreWithin, RunClocksFit}
use Rattle.herm_waking.specs.laws.EntryLaws.{NothingIsRecordedYet}
use Rattle.herm_waking.specs.laws.ReportLaws.{IsTheJournalOf, CountsAreAdded}
use Rattle.herm_waking.specs.laws.RoundLaws.{NothingKeptIsFinal, IsWorked, StartIsWorked, EventsAreWorked, KeptRoundsAreRounds, KeptRoundsEnd, SchedulesAreGoneAlong, StepsCanBeMade, SchedulesAreThere, KeptRoundsSuffice, WorldsWouldSuit}
use Rattle.herm_waking.specs.laws.UnnamedLaws.{StandingsForgetNames, AwaitedForgetsNames, TurnsForgetNames, StepsForgetNames, KeptForgetsNames, WorkForgetsNames, RoundsForgetNames, SchedulesForgetNames, OpeningsForgetNames, FatesForgetNames, QueuesForgetNames, CountsForgetNames}
use Rattle.herm_waking.specs.laws.WakingLaws.{OneLooksAtAPort, LocalStepsWakeNobody, OthersStandAsBefore, WaitsEnd, EventsKeepReady, FirstIsKept}
use Rattle.herm_waking.specs.laws.WorldLaws.{report_of}
use Rattle.herm_code_worlds.specs.CodeWorlds.{FindsItsOperands, its_ready, named, nameless, IsWithin, on_stack}

-- Of every image, good or not. The names of cells are nothing to its processes: each begins, stands, wants, steps, answers, ends and counts the same
-- without them, and so do systems, worlds and reports. Language reference, "Values".
pub record WorksWithoutNames (image : ReadyImage) : Type 0 where
  pub process : ForgetsNames (code_machine image) (nameless_code image) forget_code
  pub counting : CountsWithoutNames (code_machine image) (nameless_code image) forget_code
  pub standings : StandingsForgetNames (code_machine image) (nameless_code image) forget_code
  pub awaited : AwaitedForgetsNames (code_machine image) (nameless_code image) forget_code
  pub turns : TurnsForgetNames (code_machine image) (nameless_code image) forget_code
  pub steps : StepsForgetNames (code_machine image) (nameless_code image) forget_code
  pub kept : KeptForgetsNames (code_machine image) (nameless_code image) forget_code
  pub begins : OpeningsForgetNames (code_machine image) (nameless_code image) forget_code
  pub stepped : WorkForgetsNames (code_machine image) (nameless_code image) forget_code
  pub rounds : RoundsForgetNames (code_machine image) (nameless_code image) forget_code
  pub schedules : SchedulesForgetNames (code_machine image) (nameless_code image) forget_code
  pub ends : FatesForgetNames (code_machine image) (nameless_code image) forget_code
  pub queues : QueuesForgetNames (code_machine image) (nameless_code image) forget_code
  pub counts : CountsForgetNames (code_machine image) (nameless_code image) forget_code

-- A process without names stays in the state behind its diary. Language reference, "Diaries".
pub record StaysAtDiary (image : ReadyImage) : Type 0 where
  pub begins : BeginsAtDiary (nameless_code image)
  pub steps : LocalStepsKeepDiary (nameless_code image)
  pub actions : ActionsKeepDiary (nameless_code image)
  pub stamps : DiaryStampsAreBetween (nameless_code image)

-- Of every image: clocks are no more than the entries, nothing is recorded yet where nothing is, and the numbers of the summary are added up.
pub record RecordsRuns (image : ReadyImage) : Type 0 where
  pub clocks : RunClocksAreWithin (code_machine image)
  pub nothing_yet : NothingIsRecordedYet (code_machine image)
  pub counts : CountsAreAdded (code_machine image)

module _ (image : Image) (main : ℕ) where
  -- Of every good image, in every sound state. Who wakes whom, and what is kept. Language reference, "Processes".
  pub record WakesFew : Type 0 where
    pub one : OneLooksAtAPort (named image main) (IsWithin image main) (on_stack image main)
    pub local_steps : LocalStepsWakeNobody (named image main) (IsWithin image main) (on_stack image main)
    pub others : OthersStandAsBefore (named image main) (IsWithin image main) (on_stack image main)
    pub ended : WaitsEnd (named image main) (IsWithin image main) (on_stack image main)
    pub kept : EventsKeepReady (named image main) (IsWithin image main) (on_stack image main)

  -- Rounds over who is kept, and schedules. Language reference, "Rounds".
  pub record GoesRounds : Type 0 where
    pub worked : EventsAreWorked (named image main) (IsWithin image main) (on_stack image main)
    pub final : NothingKeptIsFinal (named image main)
    pub rounds : KeptRoundsAreRounds (named image main) (IsWithin image main) (on_stack image main)
    pub end_ : KeptRoundsEnd (named image main) (IsWithin image main) (on_stack image main)
    pub along : SchedulesAreGoneAlong (named image main) (IsWithin image main) (on_stack image main)
    pub steps : StepsCanBeMade (named image main) (IsWithin image main) (on_stack image main)
    pub there : SchedulesAreThere (named image main) (IsWithin image main) (on_stack image main)
    pub suits : WorldsWouldSuit (named image main) (IsWithin image main) (on_stack image main)

  -- Each process of a run is what its diary says. Language reference, "Diaries".
  abbrev pub DiariesTellOfRuns : Type 0
  DiariesTellOfRuns = (limits : Limits) (argument : Text) (events : List Event) (r : Run (CodeState Name)) → IsTrue (is_text argument) → run (named image main) events (start (named image main) limits argument) ≡ Some r
      → (p : ℕ) (x : CodeState Name) → numbered_from_one p r.system.processes ≡ Some x → IsToldByDiary (nameless image main) main limits r.journal p x.module_number (forget_code x)

  -- The journal of a run in order fits its parts and is the only one. Language reference, "Journals".
  abbrev pub RunsHaveTheirJournal : Type 0
  RunsHaveTheirJournal = (limits : Limits) (argument : Text) (events : List Event) (r : Run (CodeState Name)) → run (named image main) events (start (named image main) limits argument) ≡ Some r → IsTheJournalOf r

  -- Where nobody is kept the report is that of a run, along which each state is sound and no instruction is stuck. Language reference, "Reports".
  abbrev pub ReportsDescribeRuns : Type 0
  ReportsDescribeRuns = (limits : Limits) (argument : Text) (events : List Event) (w : Worked (CodeState Name)) (names : List Text) (asked : Asked) → IsTrue (is_text argument)
      → run (named image main) events (start (named image main) limits argument) ≡ Some w.run → IsWorked (named image main) (IsWithin image main) (on_stack image main) w → w.kept.ready ≡ []
      → DescribesRun (named image main) (IsWithin image main) (FindsItsOperands (its_ready image main)) limits argument names asked (report_of names asked (named image main) w.run)

  -- Of every good image whose main has a port of the type main_start: it begins, with a process of main, and so all that is said of runs
  -- from the start. Language reference, "Opening state".
  pub record RunsFromStart : Type 0 where
    pub begins : (x : CodeState Name) × ((named image main).begin main 1 main_port ≡ Some x)
    pub kept : FirstIsKept (named image main) (IsWithin image main) (on_stack image main)
    pub worked : StartIsWorked (named image main) (IsWithin image main) (on_stack image main)
    pub suffice : KeptRoundsSuffice (named image main) (IsWithin image main) (on_stack image main)
    pub fit : RunClocksFit (named image main)
    pub told : DiariesTellOfRuns
    pub journal : RunsHaveTheirJournal
    pub report : ReportsDescribeRuns
