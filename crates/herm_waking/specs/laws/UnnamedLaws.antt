-- What is claimed of systems without names: they stand, turn and step as the systems of the language do.
use Rattle.std.specs.Prelude.{ℕ, List, Option, option_map, ◌≡◌, ⊤}
use Rattle.herm_model.specs.Values.{Name}
use Rattle.herm_journal.specs.Entries.{Text}
use Rattle.herm_journal.specs.Messages.{CellAction}
use Rattle.herm_journal.specs.NextNumbers.{Limits}
use Rattle.herm_journal.specs.Renaming.{rename_action, forget_name}
use Rattle.herm_system.specs.Machines.{Machine}
use Rattle.herm_system.specs.ProcessFates.{fates}
use Rattle.herm_system.specs.Rounds.{turn}
use Rattle.herm_system.specs.RunTexts.{queues}
use Rattle.herm_system.specs.Summary.{counts}
use Rattle.herm_system.specs.Systems.{System, Moved, Event, step, standing_of}
use Rattle.herm_waking.specs.Unnamed.{unnamed, BareMoved, bare_standing, bare_awaited, bare_turn, bare_step, bare_kept}
use Rattle.herm_waking.specs.KeptRounds.{Worked, first_worked, stepped, kept_rounds, scheduled}
use Rattle.herm_waking.specs.UnnamedReport.{bare_fates, bare_queues, bare_counts}
use Rattle.herm_waking.specs.UnnamedRounds.{bare_first, unnamed_worked, bare_stepped, bare_rounds, bare_scheduled}
use Rattle.herm_waking.specs.Waking.{Kept, awaited, kept_behind}

-- what an event leaves, without names
abbrev pub bare_moved : {P Q : Type 0} → (P → Q) → Moved P → BareMoved Q
bare_moved without m = record { system = unnamed without m.system; done = option_map (rename_action forget_name) m.done }

module _ {P Q : Type 0} (machine : Machine Name P) (nameless : Machine ⊤ Q) (without : P → Q) where
  -- Each process stands the same, waits at the same ports, and has the same event next. Language reference, "Processes".
  abbrev pub StandingsForgetNames : Type 0
  StandingsForgetNames = (s : System P) (p : ℕ) → bare_standing nameless (unnamed without s) p ≡ standing_of machine s p

  abbrev pub AwaitedForgetsNames : Type 0
  AwaitedForgetsNames = (s : System P) (p : ℕ) → bare_awaited nameless (unnamed without s) p ≡ awaited machine s p

  abbrev pub TurnsForgetNames : Type 0
  TurnsForgetNames = (s : System P) (p : ℕ) → bare_turn nameless (unnamed without s) p ≡ turn machine s p

  -- An event leaves the same and does the same, without names; and there is none here where there is none there.
  -- Language reference, "The system".
  abbrev pub StepsForgetNames : Type 0
  StepsForgetNames = (e : Event) (s : System P) → bare_step nameless e (unnamed without s) ≡ option_map (bare_moved without) (step machine e s)

  -- And the same is kept.
  abbrev pub KeptForgetsNames : Type 0
  KeptForgetsNames = (e : Event) (t : System P) (a : Option (CellAction Name)) (k : Kept) → bare_kept nameless (unnamed without t) e (option_map (rename_action forget_name) a) k ≡ kept_behind machine t e a k

  -- So steps, rounds and schedules of worlds without names are those of runs of the language, without names.
  abbrev pub WorkForgetsNames : Type 0
  WorkForgetsNames = (p : ℕ) (w : Worked P) → bare_stepped nameless p (unnamed_worked without w) ≡ option_map (unnamed_worked without) (stepped machine p w)

  abbrev pub RoundsForgetNames : Type 0
  RoundsForgetNames = (most : ℕ) (w : Worked P) → bare_rounds most nameless (unnamed_worked without w) ≡ option_map (unnamed_worked without) (kept_rounds most machine w)

  abbrev pub SchedulesForgetNames : Type 0
  SchedulesForgetNames = (ps : List ℕ) (w : Worked P) → bare_scheduled ps nameless (unnamed_worked without w) ≡ option_map (unnamed_worked without) (scheduled ps machine w)

  -- And a world begins as a run does.
  abbrev pub OpeningsForgetNames : Type 0
  OpeningsForgetNames = (limits : Limits) (argument : Text) → bare_first nameless machine.main limits argument ≡ unnamed_worked without (first_worked machine limits argument)

  -- What became of processes, the queues and the numbers of the summary are the same. Language reference, "Reports".
  abbrev pub FatesForgetNames : Type 0
  FatesForgetNames = (s : System P) → bare_fates nameless (unnamed without s) ≡ fates machine s

  abbrev pub QueuesForgetNames : Type 0
  QueuesForgetNames = (s : System P) → bare_queues (unnamed without s) ≡ queues s

  abbrev pub CountsForgetNames : Type 0
  CountsForgetNames = (s : System P) → bare_counts nameless (unnamed without s) ≡ counts machine s
