-- Where a world is led to, and what is so of the run that it shows there.
use Rattle.std.specs.Prelude.{◌≡◌, ◌≤◌, ◌+◌, ◌++◌, ℕ, suc, List, Some, ⊤}
use Rattle.herm_model.specs.Values.{Name}
use Rattle.herm_journal.specs.Entries.{Text}
use Rattle.herm_journal.specs.NextNumbers.{Limits}
use Rattle.herm_system.specs.Machines.{Machine}
use Rattle.herm_system.specs.Systems.{Event}
use Rattle.herm_code_machine.specs.CodeStates.{CodeState}
use Rattle.herm_waking.specs.KeptRounds.{Worked, stepped, kept_turns, kept_rounds, scheduled}
use Rattle.herm_waking.specs.UnnamedRounds.{BareWorked}
use Rattle.herm_code_worlds.specs.CodeWorlds.{named}
use Rattle.herm_world.specs.Worlds.{WorldState, ShowsRun}

-- It shows a run further on, of which this is so.
pub record LeadsWhere (Is : Worked (CodeState Name) → Type 0) (limits : Limits) (argument : Text) (events : List Event) (new : WorldState) : Type 0 where
  pub further : List Event
  pub run : Worked (CodeState Name)
  pub bare : BareWorked (CodeState ⊤)
  pub is_so : Is run
  pub shows : ShowsRun limits argument (events ++ further) run bare new

-- Each run that it shows leads to one that stands so to it, under the machine of the image.
abbrev pub GoesOn : (Machine Name (CodeState Name) → (w t : Worked (CodeState Name)) → Type 0) → (old new : WorldState) → Type 0
GoesOn Is old new = (limits : Limits) (argument : Text) (events : List Event) (w : Worked (CodeState Name)) (b : BareWorked (CodeState ⊤)) → ShowsRun limits argument events w b old → LeadsWhere (Is (named old.image old.main) w) limits argument events new

-- by the step of a process, along a schedule, by one round, and by rounds
abbrev pub IsStepped : ℕ → Machine Name (CodeState Name) → (w t : Worked (CodeState Name)) → Type 0
IsStepped p machine w t = stepped machine p w ≡ Some t

abbrev pub IsAlong : List ℕ → Machine Name (CodeState Name) → (w t : Worked (CodeState Name)) → Type 0
IsAlong ps machine w t = scheduled ps machine w ≡ Some t

abbrev pub IsARound : Machine Name (CodeState Name) → (w t : Worked (CodeState Name)) → Type 0
IsARound machine w t = kept_turns w.run.system.book.limits.processes machine 1 w ≡ Some t

abbrev pub AreRounds : Machine Name (CodeState Name) → (w t : Worked (CodeState Name)) → Type 0
AreRounds machine w t = (most : ℕ) × (kept_rounds most machine w ≡ Some t)

-- In a round, with turns that are left from a number on: enough for all who may be made.
pub record HasTurnsLeft (from : ℕ) (machine : Machine Name (CodeState Name)) (w t : Worked (CodeState Name)) : Type 0 where
  pub rest : ℕ
  pub enough : suc w.run.system.book.limits.processes ≤ from + rest
  pub same : kept_turns w.run.system.book.limits.processes machine 1 w ≡ kept_turns rest machine from t

-- behind so many rounds, however many follow
abbrev pub IsBehindRounds : ℕ → Machine Name (CodeState Name) → (w t : Worked (CodeState Name)) → Type 0
IsBehindRounds count machine w t = (more : ℕ) → kept_rounds (count + more) machine w ≡ kept_rounds more machine t
