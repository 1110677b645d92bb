-- What the fields of a process stand for, and what they keep.
use Rattle.std.specs.Prelude.{◌≡◌, ◌≤◌, ℕ, Bool, Option, IsSome}
use Rattle.herm_base.specs.declared.numbers.PortNo.{PortNo}
use Rattle.herm_base.specs.declared.numbers.ProcNo.{ProcNo}
use Rattle.herm_events.specs.Rising.{DiaryState}
use Rattle.herm_events.specs.declared.entry.Stamp.{Stamp}
use Rattle.herm_machine.specs.Machines.{MachineState}
use Rattle.herm_process.specs.Processes.{ProcessState, IsKept}
use Rattle.herm_process.specs.declared.birth.Birth.{Birth}
use Rattle.herm_process.specs.declared.ordered.Ordered.{Ordered}

abbrev pub process_state : MachineState → ProcNo → (module_number : ℕ) → PortNo → Birth → (limit : ℕ) → Stamp → DiaryState → Option Ordered → Bool → ProcessState
process_state machine number module_number first birth limit clock diary ordered is_dead = record {
  machine = machine;
  number = number.number;
  module_number = module_number;
  first = first.number;
  birth = birth;
  limit = limit;
  clock = clock.0;
  diary = diary.entries;
  ordered = ordered;
  is_dead = is_dead;
}

-- The diary is its own, and has room for the entry of an order that is out; and the limit of steps is in its range.
pub record AreKept (machine : MachineState) (number : ProcNo) (module_number : ℕ) (first : PortNo) (birth : Birth) (limit : ℕ) (clock : Stamp) (diary : DiaryState) (ordered : Option Ordered) (is_dead : Bool) : Type 0 where
  pub kept : IsKept (process_state machine number module_number first birth limit clock diary ordered is_dead)
  pub own : diary.process ≡ number.number
  pub room : IsSome ordered → 1 ≤ diary.room
  pub few : limit ≤ 1000000
