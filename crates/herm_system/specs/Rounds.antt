-- Rounds: the schedule of one worker.
use Rattle.std.specs.Prelude.{ℕ, zero, suc, Bool, true, false, cond, Option, Some, None, is_some, find, option_map, option_and_then}
use Rattle.herm_journal.specs.Entries.{Place, book}
use Rattle.herm_model.specs.Values.{Name}
use Rattle.herm_system.specs.Machines.{Machine, is_local, is_acting}
use Rattle.herm_system.specs.Systems.{System, numbered_from_one, places_for, done_in, stands, Event, steps, acts, Run, run_on}

-- the first place in written order at which what a process wants can be done
abbrev pub first_place : {P : Type 0} → Machine Name P → System P → ℕ → Option Place
first_place machine s p =
    option_and_then (λ x. option_and_then (λ w. find (λ place. is_some (done_in w s place)) (places_for p w)) (machine.wanted x)) (numbered_from_one p s.processes)

-- that place; a process that acts has one, unless it is stuck
abbrev pub place_or_book : Option Place → Place
place_or_book None = book
place_or_book (Some place) = place

-- The next event of a process: its local step, or its action, of a select at the first port that is not empty.
-- Language reference, "Rounds".
abbrev pub turn : {P : Type 0} → Machine Name P → System P → ℕ → Option Event
turn machine s p = cond (stands is_local machine s p) (Some (steps p)) (cond (stands is_acting machine s p) (Some (acts p (place_or_book (first_place machine s p)))) None)

-- what a round has led to, and whether it made anything
pub record Round (P : Type 0) : Type 0 where
  pub run : Run P
  pub moved : Bool

-- the turn of a process, if it can step; none where it is stuck
abbrev pub after_turn : {P : Type 0} → Machine Name P → Option Event → Round P → Option (Round P)
after_turn machine None r = Some r
after_turn machine (Some e) r = option_map (λ next. record { run = next; moved = true }) (run_on machine e r.run)

-- The turns of so many processes, from one on, by rising number. A process made in a round has its turn in it.
-- Language reference, "Rounds".
abbrev pub turns : {P : Type 0} → ℕ → Machine Name P → ℕ → Round P → Option (Round P)
turns zero machine p r = Some r
turns (suc n) machine p r = elim (after_turn machine (turn machine r.run.system p) r) [ None ↦ None | Some next ↦ turns n machine (suc p) next ]

-- a round from process 1 on
abbrev pub one_round : {P : Type 0} → Machine Name P → Run P → Option (Round P)
one_round machine r = turns r.system.book.limits.processes machine 1 (record { run = r; moved = false })

-- Rounds, at most so many, until one makes nothing; none where they do not suffice. Language reference, "Rounds".
abbrev pub rounds : {P : Type 0} → ℕ → Machine Name P → Run P → Option (Run P)
rounds zero machine r = None
rounds (suc n) machine r = elim (one_round machine r) [ None ↦ None | Some round ↦ elim (round.moved) [ false ↦ Some round.run | true ↦ rounds n machine round.run ] ]
