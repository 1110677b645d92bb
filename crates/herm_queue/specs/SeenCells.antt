-- Cells in the words of the language, and the laws that join them to its places.
use Rattle.std.specs.Prelude.{ℕ, List, nat_eq, false, Some, None, ◌≡◌, ⊤}
use Rattle.herm_model.specs.Values.{Cell}
use Rattle.herm_journal.specs.Actions.{Action}
use Rattle.herm_journal.specs.NextNumbers.{Limits}
use Rattle.herm_journal.specs.PlaceStates.{PlaceState, IsEnabled, after}
use Rattle.herm_journal.specs.Entries as source
use Rattle.herm_journal.specs.Entries.{Text, Entry, recorded_state, map_action, map_holding}
use Rattle.herm_journal.specs.Histories.{first_recorded_state}
use Rattle.herm_journal.specs.Journals.{part_of_place}
use Rattle.herm_journal.specs.Messages.{CellReply}
use Rattle.herm_journal.specs.Stamps.{clock_of_process, entry_behind}
use Rattle.herm_values.specs.View.{value_view}
use Rattle.herm_letters.specs.View.{reply_view}
use Rattle.herm_queue.specs.CellStates.{CellAction, CellState, Holding, IsReplayed, entry_at, recorded, told}
use Rattle.herm_queue.specs.PortStates.{PortState, port_cell}
use Rattle.herm_queue.specs.ReplyStates.{ReplyState, reply_cell_of}
use Rattle.herm_queue.specs.BookStates.{BookState, book_cell}

-- what is done, and what is held, between values of the language
abbrev pub seen_action : CellAction → Action (Cell ⊤) (CellReply ⊤)
seen_action a = map_action value_view reply_view a

abbrev pub seen : Holding → PlaceState (Cell ⊤) (CellReply ⊤)
seen h = map_holding value_view reply_view h

-- The cell opens as its place does. Language reference, "Opening state".
abbrev pub OpensAsPlace : Limits → Text → CellState → Type 0
OpensAsPlace limits message s = s.opening ≡ first_recorded_state limits message s.place

-- Port 1 opens with its message, every other port without one; reply cells and the book open as their places do.
abbrev pub MainPortsOpen : Type 0
MainPortsOpen = (limits : Limits) (message : Text) (s : PortState) → s.number ≡ 1 → s.first ≡ Some message → OpensAsPlace limits message (port_cell s)

abbrev pub OtherPortsOpen : Type 0
OtherPortsOpen = (limits : Limits) (message : Text) (s : PortState) → nat_eq s.number 1 ≡ false → s.first ≡ None → OpensAsPlace limits message (port_cell s)

abbrev pub ReplyCellsOpen : Type 0
ReplyCellsOpen = (limits : Limits) (message : Text) (s : ReplyState) → OpensAsPlace limits message (reply_cell_of s)

abbrev pub BooksOpen : Type 0
BooksOpen = (limits : Limits) (message : Text) (s : BookState) → s.held.limits ≡ limits → OpensAsPlace limits message (book_cell s)

-- What can be done at a cell can be done at its place, and leaves there what it leaves at the cell.
abbrev pub ActionsFit : Type 0
ActionsFit = (h : Holding) (a : CellAction) → IsEnabled h a → IsEnabled (seen h) (seen_action a)

abbrev pub ActionsLead : Type 0
ActionsLead = (h : Holding) (a : CellAction) → seen (after a h) ≡ after (seen_action a) (seen h)

-- An action, and what is held, are recorded as the language records them.
abbrev pub ActionsAreRecorded : Type 0
ActionsAreRecorded = (a : CellAction) → recorded a ≡ source.recorded (seen_action a)

abbrev pub HoldingsAreTold : Type 0
HoldingsAreTold = (h : Holding) → told h ≡ recorded_state (seen h)

-- Where the cell's history is the part of its place in the entries so far, and the process's clock is what they give, the
-- action's entry is the one that comes behind them. Language reference, "Stamps".
abbrev pub ActionsAreStamped : Type 0
ActionsAreStamped =
    (before : List Entry) (process clock : ℕ) (a : CellAction) (s : CellState) →
    IsReplayed s → part_of_place s.place before ≡ s.entries → clock_of_process process before ≡ clock →
    entry_at process clock a s ≡ entry_behind before process s.place (recorded a)
