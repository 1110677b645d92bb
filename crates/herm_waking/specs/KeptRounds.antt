-- Rounds over the processes that can step, and a run along a schedule.
use Rattle.std.specs.Prelude.{ℕ, zero, suc, List, [], ◌∷◌, Bool, true, false, Option, Some, None, option_map}
use Rattle.herm_model.specs.Values.{Name}
use Rattle.herm_journal.specs.Entries.{Text}
use Rattle.herm_journal.specs.NextNumbers.{Limits}
use Rattle.herm_system.specs.Machines.{Machine}
use Rattle.herm_system.specs.Systems.{Moved, Event, step, Run, with_entry, start}
use Rattle.herm_system.specs.Rounds.{turn}
use Rattle.herm_waking.specs.Numbers.{next_from}
use Rattle.herm_waking.specs.Waking.{Kept, kept_behind, first_kept}

-- a run, with what is kept beside its system
pub record Worked (P : Type 0) : Type 0 where
  pub run : Run P
  pub kept : Kept

-- how a run begins
abbrev pub first_worked : {P : Type 0} → Machine Name P → Limits → Text → Worked P
first_worked machine limits argument = record { run = start machine limits argument; kept = first_kept machine (start machine limits argument).system }

-- an event, with what is kept behind it; none where the event can't be
abbrev pub worked_on : {P : Type 0} → Machine Name P → Event → Worked P → Option (Worked P)
worked_on machine e w =
    option_map
    (λ (m : Moved _). record { run = record { system = m.system; journal = with_entry w.run.journal e m.done }; kept = kept_behind machine m.system e m.done w.kept })
    (step machine e w.run.system)

-- The step of a process of this number: its next event, if it is there and can step, and else nothing. Language reference, "Rounds".
abbrev pub made_turn : {P : Type 0} → Machine Name P → Option Event → Worked P → Option (Worked P)
made_turn machine None w = Some w
made_turn machine (Some e) w = worked_on machine e w

abbrev pub stepped : {P : Type 0} → Machine Name P → ℕ → Worked P → Option (Worked P)
stepped machine p w = made_turn machine (turn machine w.run.system p) w

-- The steps of the processes that are kept, at most so many, from a number on, by rising number. Who is woken or made below has its
-- next step in the next round, who is above in this one. Language reference, "Rounds".
abbrev pub kept_turns : {P : Type 0} → ℕ → Machine Name P → ℕ → Worked P → Option (Worked P)
kept_turns zero machine p w = Some w
kept_turns (suc n) machine p w =
    elim (next_from p w.kept.ready) [ None ↦ Some w | Some q ↦ elim (stepped machine q w) [ None ↦ None | Some next ↦ kept_turns n machine (suc q) next ] ]

-- some process is kept
abbrev pub is_some_kept : List ℕ → Bool
is_some_kept [] = false
is_some_kept (p ∷ ps) = true

-- Rounds over the processes that are kept, at most so many, until none is kept; none where they do not suffice.
-- Language reference, "Rounds".
abbrev pub kept_rounds : {P : Type 0} → ℕ → Machine Name P → Worked P → Option (Worked P)
kept_rounds zero machine w = None
kept_rounds (suc n) machine w =
    elim (is_some_kept w.kept.ready) [ false ↦ Some w | true ↦ elim (kept_turns w.run.system.book.limits.processes machine 1 w) [ None ↦ None | Some next ↦ kept_rounds n machine next ] ]

-- A run along a schedule: a step of each process of these numbers in order, where numbers of processes that are not there or cannot
-- step are passed over. Language reference, "Rounds".
abbrev pub scheduled : {P : Type 0} → List ℕ → Machine Name P → Worked P → Option (Worked P)
scheduled [] machine w = Some w
scheduled (p ∷ ps) machine w = elim (stepped machine p w) [ None ↦ None | Some next ↦ scheduled ps machine next ]
