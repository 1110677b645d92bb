-- What is claimed of the worlds of images as code holds them, without names: from the opening on they show runs of the image.
use Rattle.std.specs.Prelude.{◌≡◌, ◌≤◌, ◌++◌, ℕ, suc, List, [], ◌∷◌, true, false, Some, ⊤, IsTrue}
use Rattle.herm_model.specs.Lists.{any_pass}
use Rattle.herm_model.specs.Typed.{is_text}
use Rattle.herm_model.specs.Values.{Name, Cell}
use Rattle.herm_journal.specs.Entries.{Text, Place, same_place, recorded}
use Rattle.herm_journal.specs.Journals.{ordered}
use Rattle.herm_journal.specs.Messages.{CellReply, CellWant, CellAction}
use Rattle.herm_journal.specs.NextNumbers.{Limits}
use Rattle.herm_journal.specs.PlaceStates.{PlaceState}
use Rattle.herm_journal.specs.Stamps.{entry_behind}
use Rattle.herm_system.specs.PutAside.{IsToldBy}
use Rattle.herm_system.specs.Reports.{DescribesRun}
use Rattle.herm_system.specs.Rounds.{rounds}
use Rattle.herm_system.specs.RunTexts.{Asked}
use Rattle.herm_system.specs.Systems.{Event, run_on, Run, IsFinal, numbered_from_one, places_for, done_at}
use Rattle.herm_sound.specs.laws.SoundLaws.{most_events}
use Rattle.herm_instructions.specs.Images.{Image}
use Rattle.herm_code_machine.specs.CodeInstance.{code_machine, nameless_code}
use Rattle.herm_code_machine.specs.CodeRenaming.{forget_code}
use Rattle.herm_code_machine.specs.CodeStates.{CodeState}
use Rattle.herm_code_machine.specs.ReadyCode.{ReadyImage}
use Rattle.herm_waking.specs.KeptRounds.{Worked, first_worked}
use Rattle.herm_waking.specs.Numbers.{has}
use Rattle.herm_waking.specs.Unnamed.{unnamed, bare_at, bare_can_step, bare_turn}
use Rattle.herm_waking.specs.UnnamedRounds.{BareWorked, bare_first, bare_stepped, bare_rounds, bare_scheduled}
use Rattle.herm_waking.specs.laws.RoundLaws.{process_of, GoesAlong}
use Rattle.herm_waking.specs.laws.WorldLaws.{report_of}
use Rattle.herm_code_worlds.specs.BareReports.{bare_report}
use Rattle.herm_code_worlds.specs.CodeWorlds.{FindsItsOperands, its_ready, named, nameless, IsWithin, Shows}

-- The report of a system without names is that of the system, whatever the image. Language reference, "Reports".
abbrev pub ReportsForgetNames : ReadyImage → Type 0
ReportsForgetNames image = (names : List Text) (asked : Asked) (r : Run (CodeState Name)) → bare_report names asked (nameless_code image) (unnamed forget_code r.system) (ordered r.journal) ≡ report_of names asked (code_machine image) r

module _ (image : Image) (main : ℕ) where
  -- a process makes its next event, which leads the run and the world on together
  pub record MakesEvent (limits : Limits) (argument : Text) (events : List Event) (w : Worked (CodeState Name)) (b : BareWorked (CodeState ⊤)) (p : ℕ) : Type 0 where
    pub event : Event
    pub its_own : process_of event ≡ p
    pub next : bare_turn (nameless image main) b.system p ≡ Some event
    pub run : Worked (CodeState Name)
    pub goes_on : run_on (named image main) event w.run ≡ Some run.run
    pub world : BareWorked (CodeState ⊤)
    pub stepped : bare_stepped (nameless image main) p b ≡ Some world
    pub shows : Shows image main limits argument (events ++ event ∷ []) run world

  -- The step of a process: of one that is kept its next event, which is there; and nothing changes for one that is not. Who is kept can
  -- step, and nobody else. Language reference, "Rounds".
  pub record MakesStep (limits : Limits) (argument : Text) (events : List Event) (w : Worked (CodeState Name)) (b : BareWorked (CodeState ⊤)) (p : ℕ) : Type 0 where
    pub kept : has p b.kept.ready ≡ bare_can_step (nameless image main) b.system p
    pub steps : has p b.kept.ready ≡ true → MakesEvent limits argument events w b p
    pub stays : has p b.kept.ready ≡ false → bare_stepped (nameless image main) p b ≡ Some b

  -- a world leads along events to another, where nobody is kept and the run is at its end
  pub record LeadsToEnd (limits : Limits) (argument : Text) (events : List Event) (w : Worked (CodeState Name)) (most : ℕ) (c : BareWorked (CodeState ⊤)) : Type 0 where
    pub further : List Event
    pub run : Worked (CodeState Name)
    pub rounds_to : rounds most (named image main) w.run ≡ Some run.run
    pub shows : Shows image main limits argument (events ++ further) run c
    pub nobody : c.kept.ready ≡ []
    pub final : IsFinal (named image main) run.run.system

  -- a world goes along a schedule
  pub record LeadsAlong (limits : Limits) (argument : Text) (events : List Event) (w : Worked (CodeState Name)) (b : BareWorked (CodeState ⊤)) (ps : List ℕ) : Type 0 where
    pub further : List Event
    pub run : Worked (CodeState Name)
    pub along : GoesAlong (named image main) ps w.run run.run
    pub world : BareWorked (CodeState ⊤)
    pub scheduled_to : bare_scheduled ps (nameless image main) b ≡ Some world
    pub shows : Shows image main limits argument (events ++ further) run world

  -- Whatever a process of the world wants and can do at a place suits it, and the entry of it, next in the journal, tells of it.
  -- Language reference, "Diaries".
  abbrev pub TellsOfActions : Worked (CodeState Name) → BareWorked (CodeState ⊤) → Type 0
  TellsOfActions w b = (p : ℕ) (x : CodeState ⊤) (want : CellWant ⊤) (place : Place) (h : PlaceState (Cell ⊤) (CellReply ⊤)) (a : CellAction ⊤) → numbered_from_one p b.system.processes ≡ Some x
      → (nameless image main).wanted x ≡ Some want → any_pass (same_place place) (places_for p want) ≡ true → bare_at place b.system ≡ Some h → done_at want h ≡ Some a
      → IsToldBy (nameless image main) x (entry_behind w.run.journal p place (recorded a)) a

  -- A world of the image as code holds it, of every good image whose main has a port of the type main_start: it shows a run at the start,
  -- and behind each step, each schedule and all rounds, which end; and where nobody is kept its report is that of the run that it shows.
  pub record ShowsRuns : Type 0 where
    pub opens : (limits : Limits) (argument : Text) → IsTrue (is_text argument) → 1 ≤ limits.processes
        → Shows image main limits argument [] (first_worked (named image main) limits argument) (bare_first (nameless image main) main limits argument)
    pub steps : (limits : Limits) (argument : Text) (events : List Event) (w : Worked (CodeState Name)) (b : BareWorked (CodeState ⊤)) → Shows image main limits argument events w b
        → (p : ℕ) → MakesStep limits argument events w b p
    pub told : (limits : Limits) (argument : Text) (events : List Event) (w : Worked (CodeState Name)) (b : BareWorked (CodeState ⊤)) → Shows image main limits argument events w b → TellsOfActions w b
    pub schedules : (limits : Limits) (argument : Text) (events : List Event) (w : Worked (CodeState Name)) (b : BareWorked (CodeState ⊤)) → Shows image main limits argument events w b
        → (ps : List ℕ) → LeadsAlong limits argument events w b ps
    pub rounds_end : (limits : Limits) (argument : Text) (events : List Event) (w : Worked (CodeState Name)) (b c : BareWorked (CodeState ⊤)) (most : ℕ) → Shows image main limits argument events w b
        → bare_rounds most (nameless image main) b ≡ Some c → LeadsToEnd limits argument events w most c
    pub rounds_suffice : (limits : Limits) (argument : Text) (events : List Event) (w : Worked (CodeState Name)) (b : BareWorked (CodeState ⊤)) → Shows image main limits argument events w b
        → (c : BareWorked (CodeState ⊤)) × (bare_rounds (suc (most_events limits)) (nameless image main) b ≡ Some c)
    pub report : (limits : Limits) (argument : Text) (events : List Event) (w : Worked (CodeState Name)) (b : BareWorked (CodeState ⊤)) (names : List Text) (asked : Asked) → IsTrue (is_text argument)
        → Shows image main limits argument events w b → b.kept.ready ≡ []
        → DescribesRun (named image main) (IsWithin image main) (FindsItsOperands (its_ready image main)) limits argument names asked (bare_report names asked (nameless image main) b.system (ordered w.run.journal))
