-- A small machine: a process that makes another and sends it a message, for which the other waits.
use Rattle.std.specs.Prelude.{ℕ, zero, suc, List, [], ◌∷◌, Option, Some, None, length, option_map}
use Rattle.herm_model.specs.Values.{Name, Cell, cell, no_parts, a_record, an_inport}
use Rattle.herm_journal.specs.Actions.{new_process, to_put, to_take, make_process}
use Rattle.herm_journal.specs.Entries.{Entry}
use Rattle.herm_journal.specs.Messages.{CellWant, CellAction}
use Rattle.herm_system.specs.Machines.{Machine, Standing, ended, acting}
use Rattle.herm_waking.specs.KeptRounds.{Worked, first_worked}
use Rattle.herm_waking.specs.Waking.{Kept}

-- its module, 0 of the first and 1 of the other, its number and port, how many actions it has made, and the port of whom it made
pub record OneOfTwo : Type 0 where
  pub code : ℕ
  pub number : ℕ
  pub port : ℕ
  pub made : ℕ
  pub other : ℕ

abbrev pub begins_pair : (code number : ℕ) → Cell Name → Option OneOfTwo
begins_pair code number (cell n (an_inport port) no_parts) = Some (record { code = code; number = number; port = port; made = 0; other = 0 })
begins_pair code number c = None

abbrev pub pair_stands : (code made : ℕ) → Standing
pair_stands zero zero = acting
pair_stands zero (suc zero) = acting
pair_stands zero (suc (suc made)) = ended
pair_stands (suc code) zero = acting
pair_stands (suc code) (suc made) = ended

abbrev pub pair_wants : (code made : ℕ) → OneOfTwo → Option (CellWant Name)
pair_wants zero zero x = Some (new_process 1)
pair_wants zero (suc zero) x = Some (to_put x.other (cell (x.number, 0) a_record no_parts))
pair_wants zero (suc (suc made)) x = None
pair_wants (suc code) zero x = Some (to_take (x.port ∷ []))
pair_wants (suc code) (suc made) x = None

abbrev pub pair_behind : CellAction Name → OneOfTwo → OneOfTwo
pair_behind (make_process code (Some made)) x = record x { made = suc x.made; other = made.1 }
pair_behind a x = record x { made = suc x.made }

abbrev pub pair : Machine Name OneOfTwo
pair = record {
  types = [];
  main = 0;
  begin = begins_pair;
  module_number = λ x. x.code;
  number = λ x. x.number;
  serial = λ x. 0;
  steps = λ x. 0;
  actions = λ x. x.made;
  exception = λ x. None;
  held = λ x. [];
  finalised = λ x. [];
  port_type = λ x n. None;
  open_call = λ x. None;
  put_aside = λ x. x;
  ready = λ limit x. pair_stands x.code x.made;
  wanted = λ x. pair_wants x.code x.made x;
  local_step = λ x. None;
  answered = λ x at a. Some (pair_behind a x);
}

abbrev pub pair_begins : Worked OneOfTwo
pair_begins = first_worked pair (record { steps = 10; processes = 4; ports = 4 }) []

-- what is kept behind turns, behind rounds and behind a schedule, and how many entries there are then
abbrev pub kept_after : Option (Worked OneOfTwo) → Option (Kept × ℕ)
kept_after o = option_map (λ (w : Worked OneOfTwo). (w.kept, length w.run.journal)) o

-- the journals of kept rounds, of a schedule and of the rounds of one worker
abbrev pub entries_after : Option (Worked OneOfTwo) → Option (List Entry)
entries_after o = option_map (λ (w : Worked OneOfTwo). w.run.journal) o
