-- What is done at the places of a world for what a process wants.
use Rattle.std.specs.Prelude.{ℕ, suc, max, List, [], ◌∷◌, ◌++◌, Option, Some, None, ◌≡◌, ⊤}
use Rattle.herm_model.specs.Lists.{list_of}
use Rattle.herm_base.specs.declared.numbers.ProcNo.{ProcNo}
use Rattle.herm_journal.specs.Actions.{make_port, make_process}
use Rattle.herm_journal.specs.Entries.{Place, Entry, recorded}
use Rattle.herm_journal.specs.Journals.{part_of_place}
use Rattle.herm_journal.specs.Messages.{CellAction, CellWant}
use Rattle.herm_journal.specs.PlaceStates.{after}
use Rattle.herm_journal.specs.Ports.{empty_port}
use Rattle.herm_journal.specs.Stamps.{clock_of_place}
use Rattle.herm_system.specs.Systems.{done_at}
use Rattle.herm_code_machine.specs.CodeStates.{CodeState}
use Rattle.herm_waking.specs.Unnamed.{Unnamed, set_bare}
use Rattle.herm_waking.specs.Waking.{woken_by, waiters_behind}
use Rattle.herm_queue.specs.CellStates as queue
use Rattle.herm_queue.specs.CellStates.{CellState}
use Rattle.herm_queue.specs.SeenCells.{seen, seen_action}
use Rattle.herm_machine.specs.Gots.{FitsWant, IsWholeGot}
use Rattle.herm_machine.specs.declared.order.Got.{Got}
use Rattle.herm_process.specs.Entries.{action_of, place_of}
use Rattle.herm_world.specs.Acting.{first_place_for}
use Rattle.herm_world.specs.Places.{Places, cell_at, seen_of, waiters_of}

-- with the port, or the port and the reply cell, that an action has made
abbrev pub with_places : {Q : Type 0} → CellAction ⊤ → Unnamed Q → Unnamed Q
with_places (make_port (Some n)) v = record v { ports = v.ports ++ empty_port ∷ [] }
with_places (make_process code (Some made)) v = record v { ports = v.ports ++ empty_port ∷ []; replies = v.replies ++ [] ∷ [] }
with_places a v = v

-- The cell is that of the place, with the history and the clock that a journal gives it. Language reference, "Histories".
pub record IsRecordedAt (journal : List Entry) (place : Place) (cell : CellState) : Type 0 where
  pub its : cell.place ≡ place
  pub entries : cell.entries ≡ part_of_place place journal
  pub clock : cell.clock ≡ clock_of_place place journal

-- so is each cell, and nothing is recorded of places that are not there
pub record AreRecorded (journal : List Entry) (s : Places) : Type 0 where
  pub cells : (place : Place) (cell : CellState) → cell_at place s ≡ Some cell → IsRecordedAt journal place cell
  pub fresh : (place : Place) → cell_at place s ≡ None → (part_of_place place journal ≡ []) × (clock_of_place place journal ≡ 0)

-- What a process with this clock wants is done at the first place at which it can be done now: it gets what tells of the action, with its
-- stamp; and the places are as the action leaves them, with those that it makes. Who is noted there, and who is woken, is as
-- the action has it. Language reference, "Actions" and "Stamps".
pub record Does (process clock : ℕ) (want : CellWant ⊤) (old new : Places) (got : Got) (stamp : ℕ) (woken : List ℕ) : Type 0 where
  pub place : Place
  pub cell : CellState
  pub there : cell_at place old ≡ Some cell
  pub action : queue.CellAction
  pub first : (qs : List (CodeState ⊤)) → first_place_for (seen_of qs old) process want ≡ Some place
  pub does : done_at want (seen cell.holding) ≡ Some (seen_action action)
  pub tells : action_of got want ≡ Some (seen_action action)
  pub at : place_of process got want ≡ place
  pub fits : FitsWant got want
  pub whole : IsWholeGot got
  pub stamped : stamp ≡ suc (max clock cell.clock)
  pub left : (qs : List (CodeState ⊤)) → with_places (seen_action action) (set_bare place (after (seen_action action) (seen cell.holding)) (seen_of qs old)) ≡ seen_of qs new
  pub noted : waiters_of new ≡ waiters_behind place (seen_action action) (waiters_of old)
  pub wakes : woken ≡ woken_by place (seen_action action) (waiters_of old)
  pub records : (journal : List Entry) → AreRecorded journal old → AreRecorded (journal ++ record { stamp = stamp; process = process; place = place; action = recorded (seen_action action) } ∷ []) new

-- the number of a process that is woken, if one is
abbrev pub numbers_in : Option ProcNo → List ℕ
numbers_in o = list_of (λ (p : ProcNo). p.number ∷ []) o
