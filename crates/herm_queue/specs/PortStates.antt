-- What contracts see of a port cell.
use Rattle.std.specs.Prelude.{ℕ, List, [], false, Option, Some, None, ◌≡◌, ⊤}
use Rattle.herm_journal.specs.Ports.{Port, empty_port, port_with}
use Rattle.herm_journal.specs.PlaceStates.{a_port}
use Rattle.herm_journal.specs.Entries.{Text, port, Entry}
use Rattle.herm_values.specs.declared.value.Value.{Value}
use Rattle.herm_values.specs.Whole.{IsWhole}
use Rattle.herm_queue.specs.CellStates.{CellState, IsReplayed}
use Rattle.herm_queue.specs.declared.port_cell.Put.{Put}
use Rattle.herm_queue.specs.declared.port_cell.Put.TheVariants.{Placed, Closed}

-- A port: its number, the text of its first message if it opens with one, what it holds, the process that waits there,
-- its clock, its history, and for how many actions more memory has been taken. Language reference, "Ports".
pub record PortState : Type 0 where
  pub number : ℕ
  pub first : Option Text
  pub held : Port Value
  pub waiter : Option ℕ
  pub clock : ℕ
  pub entries : List Entry
  pub spare : ℕ

-- how it opens
abbrev pub opening_port : Option Text → Port Text
opening_port None = empty_port
opening_port (Some text) = port_with text

-- the port as a cell
abbrev pub port_cell : PortState → CellState
port_cell s = record { place = port s.number; opening = a_port (opening_port s.first); holding = a_port s.held; clock = s.clock; entries = s.entries; spare = s.spare }

-- Its history tells what it holds, and where it is closed it has no messages and nobody waits.
pub record IsPort (s : PortState) : Type 0 where
  pub replayed : IsReplayed (port_cell s)
  pub emptied : s.held.is_open ≡ false → s.held.queue ≡ []
  pub alone : s.held.is_open ≡ false → s.waiter ≡ None

-- the message's number that a put answers, none where the port was closed
abbrev pub number_of : Put → Option ℕ
number_of (Placed stamp number text) = Some number
number_of (Closed stamp value text) = None

-- its stamp and its text
abbrev pub stamp_of : Put → ℕ
stamp_of (Placed stamp number text) = stamp.0
stamp_of (Closed stamp value text) = stamp.0

abbrev pub text_in : Put → Text
text_in (Placed stamp number text) = text
text_in (Closed stamp value text) = text

-- a message that comes back is the one that was put, and whole
abbrev pub IsBack : Value → Put → Type 0
IsBack v (Placed stamp number text) = ⊤
IsBack v (Closed stamp value text) = (value ≡ v) × IsWhole v
