-- A world as contracts see it, and the runs that it shows.
use Rattle.std.specs.Prelude.{◌≡◌, ◌≤◌, ◌⊎◌, ◌++◌, ◌∷◌, [], ℕ, List, Bool, true, false, Option, Some, None, IsTrue, ⊤}
use Rattle.herm_model.specs.Typed.{is_text}
use Rattle.herm_model.specs.Values.{Name}
use Rattle.herm_journal.specs.Entries.{Text, Entry}
use Rattle.herm_journal.specs.Journals.{part_of_process}
use Rattle.herm_journal.specs.NextNumbers.{Limits}
use Rattle.herm_journal.specs.Stamps.{clock_of_process}
use Rattle.herm_system.specs.Machines.{Standing, ended, out_of_steps, out_of_actions, waiting, local, acting}
use Rattle.herm_system.specs.Rounds.{rounds}
use Rattle.herm_system.specs.Systems.{Event, IsFinal, numbered_from_one}
use Rattle.herm_instructions.specs.Images.{Image}
use Rattle.herm_code_machine.specs.CodeStates.{CodeState}
use Rattle.herm_waking.specs.KeptRounds.{Worked}
use Rattle.herm_waking.specs.Unnamed.{bare_turn}
use Rattle.herm_waking.specs.UnnamedRounds.{BareWorked, bare_stepped, bare_scheduled, bare_rounds}
use Rattle.herm_waking.specs.laws.RoundLaws.{GoesAlong}
use Rattle.herm_code_worlds.specs.CodeWorlds.{named, nameless, Shows}
use Rattle.herm_code_worlds.specs.laws.WorldOfCode.{WorksAsWorld}
use Rattle.herm_process.specs.Processes.{ProcessState, IsProcess}
use Rattle.herm_ready.specs.Table.{ReadySet}
use Rattle.herm_world.specs.Births.{birth_of_process, birth_view}
use Rattle.herm_world.specs.Doing.{AreRecorded}
use Rattle.herm_world.specs.Places.{Places, seen_of, waiters_of}
use Rattle.herm_world.specs.declared.world.WorldStep.{WorldStep}
use Rattle.herm_world.specs.declared.world.WorldStep.TheVariants as results

-- The number of main, the processes from process 1 on, the places, who can step, and whether a call failed.
pub record WorldState : Type 0 where
  pub image : Image
  pub main : ℕ
  pub processes : List ProcessState
  pub places : Places
  pub ready : ReadySet
  pub is_dead : Bool

-- the image and the module of main stay
pub record IsOfSame (old new : WorldState) : Type 0 where
  pub image : new.image ≡ old.image
  pub main : new.main ≡ old.main

-- element by element
abbrev pub AreAlike : {X Y : Type 0} → (X → Y → Type 0) → List X → List Y → Type 0
AreAlike R [] [] = ⊤
AreAlike R [] (y ∷ ys) = ⊥
AreAlike R (x ∷ xs) [] = ⊥
AreAlike R (x ∷ xs) (y ∷ ys) = R x y × AreAlike R xs ys

-- The world holds this system, with what is kept beside it: each process stands for its state, and places hold what they hold.
pub record Sees (image : Image) (main : ℕ) (ps : List ProcessState) (s : Places) (ready : List ℕ) (b : BareWorked (CodeState ⊤)) : Type 0 where
  pub processes : AreAlike (IsProcess image main) ps b.system.processes
  pub places : seen_of b.system.processes s ≡ b.system
  pub ready_is : ready ≡ b.kept.ready
  pub waiters : waiters_of s ≡ b.kept.waiters

-- A process of this number, with the limit of steps, has the birth, the diary and the clock that a journal gives it, and no order is out.
pub record IsToldOf (journal : List Entry) (limit p : ℕ) (x : ProcessState) : Type 0 where
  pub number : x.number ≡ p
  pub limit_is : x.limit ≡ limit
  pub born : birth_view x.birth ≡ birth_of_process p journal
  pub diary : x.diary ≡ part_of_process p journal
  pub clock : x.clock ≡ clock_of_process p journal
  pub free : x.ordered ≡ None

-- Births, diaries and histories are those of the journal. Language reference, "Journals".
pub record AreTold (journal : List Entry) (limit : ℕ) (ps : List ProcessState) (s : Places) : Type 0 where
  pub processes : (p : ℕ) (x : ProcessState) → numbered_from_one p ps ≡ Some x → IsToldOf journal limit p x
  pub fresh : (p : ℕ) → numbered_from_one p ps ≡ None → part_of_process p journal ≡ []
  pub cells : AreRecorded journal s

-- The world shows the run along these events from the start, and has its births, diaries and histories. Language reference, "The system".
pub record ShowsRun (limits : Limits) (argument : Text) (events : List Event) (w : Worked (CodeState Name)) (b : BareWorked (CodeState ⊤)) (world : WorldState) : Type 0 where
  pub alive : world.is_dead ≡ false
  pub shows : Shows world.image world.main limits argument events w b
  pub sees : Sees world.image world.main world.processes world.places world.ready.members b
  pub told : AreTold w.run.journal limits.steps world.processes world.places

-- A world that is not dead shows a run of a good image whose main has a port of the type main_start, with limits in their ranges.
pub record IsWorld (world : WorldState) : Type 0 where
  pub works : WorksAsWorld world.image world.main
  pub limits : Limits
  pub few : limits.processes ≤ 1024
  pub short : limits.steps ≤ 1000000
  pub argument : Text
  pub text : IsTrue (is_text argument)
  pub events : List Event
  pub run : Worked (CodeState Name)
  pub bare : BareWorked (CodeState ⊤)
  pub room : world.ready.limit ≡ 1024
  pub shows : ShowsRun limits argument events run bare world

-- how a process stands whose step comes to this. Language reference, "Processes".
abbrev pub IsStanding : WorldStep → Option Standing → Type 0
IsStanding results.Stepped o = (o ≡ Some local) ⊎ (o ≡ Some acting)
IsStanding results.Waiting o = o ≡ Some waiting
IsStanding results.Ended o = o ≡ Some ended
IsStanding results.Stopped o = (o ≡ Some out_of_steps) ⊎ (o ≡ Some out_of_actions)
IsStanding results.Memory o = ⊤

abbrev pub changes_nothing : WorldStep → Bool
changes_nothing results.Stepped = false
changes_nothing results.Waiting = true
changes_nothing results.Ended = true
changes_nothing results.Stopped = true
changes_nothing results.Memory = false

-- A process makes its next event, which leads the run and the world on together: the world behind shows the run along one event more.
pub record MakesNext (limits : Limits) (argument : Text) (events : List Event) (b : BareWorked (CodeState ⊤)) (p : ℕ) (old new : WorldState) : Type 0 where
  pub event : Event
  pub next : bare_turn (nameless old.image old.main) b.system p ≡ Some event
  pub run : Worked (CodeState Name)
  pub bare : BareWorked (CodeState ⊤)
  pub stepped : bare_stepped (nameless old.image old.main) p b ≡ Some bare
  pub shows : ShowsRun limits argument (events ++ event ∷ []) run bare new

abbrev pub Leads : WorldStep → Limits → Text → List Event → BareWorked (CodeState ⊤) → (p : ℕ) → (old new : WorldState) → Type 0
Leads results.Stepped limits argument events b p old new = MakesNext limits argument events b p old new
Leads results.Waiting limits argument events b p old new = bare_stepped (nameless old.image old.main) p b ≡ Some b
Leads results.Ended limits argument events b p old new = bare_stepped (nameless old.image old.main) p b ≡ Some b
Leads results.Stopped limits argument events b p old new = bare_stepped (nameless old.image old.main) p b ≡ Some b
Leads results.Memory limits argument events b p old new = ⊤

-- The run goes along a schedule, and the world with it. Language reference, "Rounds".
pub record LeadsAlong (ps : List ℕ) (limits : Limits) (argument : Text) (events : List Event) (w : Worked (CodeState Name)) (b : BareWorked (CodeState ⊤)) (old new : WorldState) : Type 0 where
  pub further : List Event
  pub run : Worked (CodeState Name)
  pub bare : BareWorked (CodeState ⊤)
  pub goes : GoesAlong (named old.image old.main) ps w.run run.run
  pub along : bare_scheduled ps (nameless old.image old.main) b ≡ Some bare
  pub shows : ShowsRun limits argument (events ++ further) run bare new

-- The run goes by the rounds of the language to its end, in which no process can step, and the world with it. Language reference, "Rounds".
pub record LeadsToEnd (limits : Limits) (argument : Text) (events : List Event) (w : Worked (CodeState Name)) (b : BareWorked (CodeState ⊤)) (old new : WorldState) : Type 0 where
  pub further : List Event
  pub run : Worked (CodeState Name)
  pub bare : BareWorked (CodeState ⊤)
  pub most : ℕ
  pub goes : rounds most (named old.image old.main) w.run ≡ Some run.run
  pub final : IsFinal (named old.image old.main) run.run.system
  pub rounds_to : bare_rounds most (nameless old.image old.main) b ≡ Some bare
  pub shows : ShowsRun limits argument (events ++ further) run bare new
  pub nobody : new.ready.members ≡ []
