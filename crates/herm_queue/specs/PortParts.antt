-- What the fields of a port cell stand for, and what they keep.
use Rattle.std.specs.Prelude.{ℕ, suc, Bool, true, Option, option_map, ◌≡◌, ◌≤◌}
use Rattle.herm_journal.specs.Entries.{Text, port}
use Rattle.herm_base.specs.declared.numbers.PortNo.{PortNo}
use Rattle.herm_base.specs.declared.numbers.ProcNo.{ProcNo}
use Rattle.herm_queue.specs.LogStates.{LogState}
use Rattle.herm_queue.specs.MessageStates.{MessageState, queue_of}
use Rattle.herm_queue.specs.PortStates.{PortState, IsPort}

abbrev pub port_state : PortNo → Option Text → Bool → ℕ → MessageState → Option ProcNo → LogState → ℕ → PortState
port_state n first is_open placed messages waiter log spare = record {
  number = n.number;
  first = first;
  held = record { is_open = is_open; queue = queue_of messages.parcels; placed = placed };
  waiter = option_map (λ (p : ProcNo). p.number) waiter;
  clock = log.clock;
  entries = log.entries;
  spare = spare;
}

-- The log is the port's; what was placed is at most one more than the clock; and there is room for what is spare.
pub record ArePort (number : PortNo) (first : Option Text) (is_open : Bool) (placed : ℕ) (messages : MessageState) (waiter : Option ProcNo) (log : LogState) (spare : ℕ) : Type 0 where
  pub kept : IsPort (port_state number first is_open placed messages waiter log spare)
  pub place : log.place ≡ port number.number
  pub bounded : placed ≤ suc log.clock
  pub entry_room : spare ≤ log.room
  pub room : is_open ≡ true → spare ≤ messages.room
  pub text_room : is_open ≡ true → spare ≤ messages.text_room
