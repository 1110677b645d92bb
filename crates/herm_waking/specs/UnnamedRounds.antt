-- Steps, rounds and schedules of a system without names, with what is kept beside it: what a world computes.
use Rattle.std.specs.Prelude.{ℕ, zero, suc, List, [], ◌∷◌, true, false, Option, Some, None, option_map, ⊤}
use Rattle.herm_model.specs.Lists.{list_of}
use Rattle.herm_model.specs.Values.{a_scalar, a_text, a_record, an_inport, an_outport, cell, no_parts, part}
use Rattle.herm_journal.specs.Entries.{Text}
use Rattle.herm_journal.specs.NextNumbers.{Limits, first_book}
use Rattle.herm_journal.specs.Ports.{empty_port, port_with}
use Rattle.herm_system.specs.Machines.{Machine}
use Rattle.herm_system.specs.Systems.{Event}
use Rattle.herm_waking.specs.KeptRounds.{Worked, is_some_kept}
use Rattle.herm_waking.specs.Numbers.{next_from}
use Rattle.herm_waking.specs.Unnamed.{Unnamed, unnamed, BareMoved, bare_can_step, bare_awaited, bare_open, bare_turn, bare_step, bare_kept}
use Rattle.herm_waking.specs.Waking.{Kept, all_looked_by}

-- a system without names, with what is kept beside it
pub record BareWorked (Q : Type 0) : Type 0 where
  pub system : Unnamed Q
  pub kept : Kept

-- How a world begins: a process of main, whose number is given, at port 1 with the first message; and what is kept then.
-- Language reference, "Opening state".
abbrev pub bare_opening : {Q : Type 0} → Machine ⊤ Q → (main : ℕ) → Limits → Text → Unnamed Q
bare_opening machine main limits argument = record {
  processes = list_of (λ x. x ∷ []) (machine.begin main 1 (cell tt (an_inport 1) no_parts));
  ports = empty_port ∷ port_with (cell tt a_record (part (cell tt (a_scalar (a_text argument)) no_parts) (part (cell tt (an_outport 0) no_parts) no_parts))) ∷ [];
  replies = [] ∷ [];
  book = first_book limits;
}

abbrev pub bare_first_kept : {Q : Type 0} → Machine ⊤ Q → Unnamed Q → Kept
bare_first_kept machine v = all_looked_by (bare_can_step machine v) (bare_awaited machine v) (bare_open v) (1 ∷ []) (record { ready = []; waiters = None ∷ None ∷ [] })

abbrev pub bare_first : {Q : Type 0} → Machine ⊤ Q → (main : ℕ) → Limits → Text → BareWorked Q
bare_first machine main limits argument = record { system = bare_opening machine main limits argument; kept = bare_first_kept machine (bare_opening machine main limits argument) }

-- what a run of a world is without names
abbrev pub unnamed_worked : {P Q : Type 0} → (P → Q) → Worked P → BareWorked Q
unnamed_worked without w = record { system = unnamed without w.run.system; kept = w.kept }

abbrev pub bare_worked_on : {Q : Type 0} → Machine ⊤ Q → Event → BareWorked Q → Option (BareWorked Q)
bare_worked_on machine e b = option_map (λ (m : BareMoved _). record { system = m.system; kept = bare_kept machine m.system e m.done b.kept }) (bare_step machine e b.system)

abbrev pub made_bare_turn : {Q : Type 0} → Machine ⊤ Q → Option Event → BareWorked Q → Option (BareWorked Q)
made_bare_turn machine None b = Some b
made_bare_turn machine (Some e) b = bare_worked_on machine e b

-- The step of a process of this number: its next event, if it is there and can step, and else nothing. Language reference, "Rounds".
abbrev pub bare_stepped : {Q : Type 0} → Machine ⊤ Q → ℕ → BareWorked Q → Option (BareWorked Q)
bare_stepped machine p b = made_bare_turn machine (bare_turn machine b.system p) b

-- the steps of the processes that are kept, at most so many, from a number on
abbrev pub bare_turns : {Q : Type 0} → ℕ → Machine ⊤ Q → ℕ → BareWorked Q → Option (BareWorked Q)
bare_turns zero machine p b = Some b
bare_turns (suc n) machine p b = elim (next_from p b.kept.ready) [ None ↦ Some b | Some q ↦ elim (bare_stepped machine q b) [ None ↦ None | Some next ↦ bare_turns n machine (suc q) next ] ]

-- Rounds until no process is kept, at most so many. Language reference, "Rounds".
abbrev pub bare_rounds : {Q : Type 0} → ℕ → Machine ⊤ Q → BareWorked Q → Option (BareWorked Q)
bare_rounds zero machine b = None
bare_rounds (suc n) machine b =
    elim (is_some_kept b.kept.ready) [ false ↦ Some b | true ↦ elim (bare_turns b.system.book.limits.processes machine 1 b) [ None ↦ None | Some next ↦ bare_rounds n machine next ] ]

-- A run along a schedule. Language reference, "Rounds".
abbrev pub bare_scheduled : {Q : Type 0} → List ℕ → Machine ⊤ Q → BareWorked Q → Option (BareWorked Q)
bare_scheduled [] machine b = Some b
bare_scheduled (p ∷ ps) machine b = elim (bare_stepped machine p b) [ None ↦ None | Some next ↦ bare_scheduled ps machine next ]
