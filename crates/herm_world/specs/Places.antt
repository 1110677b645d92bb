-- The places of a world: ports from port 0 on, reply cells from process 1 on, and the book; and what an action does to them.
use Rattle.std.specs.Prelude.{ℕ, suc, length, Bool, true, false, List, [], ◌∷◌, map, Option, Some, is_some, option_map, slice_get, ◌≡◌, ◌<◌, ◌^◌, ⊤}
use Rattle.herm_model.specs.Lists.{any_pass, list_of}
use Rattle.herm_model.specs.Values.{Cell}
use Rattle.herm_journal.specs.Entries.{Place, port, reply_cell, book, map_port}
use Rattle.herm_journal.specs.Messages.{CellReply}
use Rattle.herm_journal.specs.PlaceStates.{Replies}
use Rattle.herm_journal.specs.Ports.{Port}
use Rattle.herm_system.specs.Systems.{numbered_from_one}
use Rattle.herm_waking.specs.Unnamed.{Unnamed}
use Rattle.herm_values.specs.View.{value_view}
use Rattle.herm_letters.specs.View.{reply_view}
use Rattle.herm_queue.specs.CellStates.{CellState}
use Rattle.herm_queue.specs.PortStates.{PortState, port_cell}
use Rattle.herm_queue.specs.ReplyStates.{ReplyState, reply_cell_of}
use Rattle.herm_queue.specs.BookStates.{BookState, book_cell}
use Rattle.herm_world.specs.declared.places.Places as declared

pub record Places : Type 0 where
  pub ports : List PortState
  pub replies : List ReplyState
  pub book : BookState

abbrev pub places_of : declared.Places → Places
places_of s = record { ports = s.ports.items; replies = s.replies.items; book = s.book }

-- what a port and a reply cell hold, between values of the language
abbrev pub port_seen : PortState → Port (Cell ⊤)
port_seen s = map_port value_view s.held

abbrev pub replies_seen : ReplyState → Replies (CellReply ⊤)
replies_seen s = map (λ r. (r.0, reply_view r.1)) s.waiting

-- the system with these processes and places
abbrev pub seen_of : {Q : Type 0} → List Q → Places → Unnamed Q
seen_of qs s = record { processes = qs; ports = map port_seen s.ports; replies = map replies_seen s.replies; book = s.book.held }

-- who is noted at each port
abbrev pub waiters_of : Places → List (Option ℕ)
waiters_of s = map (λ (p : PortState). p.waiter) s.ports

-- the cell of a place
abbrev pub cell_at : Place → Places → Option CellState
cell_at (port n) s = option_map port_cell (slice_get s.ports n)
cell_at (reply_cell p) s = option_map reply_cell_of (numbered_from_one p s.replies)
cell_at book s = Some (book_cell s.book)

-- each clock fits its stamps
abbrev pub ClocksFit : Places → Type 0
ClocksFit s = (place : Place) (cell : CellState) → cell_at place s ≡ Some cell → cell.clock < 2 ^ 63

-- a message waits at a port, by a test
abbrev pub holds_some : {X : Type 0} → List X → Bool
holds_some [] = false
holds_some (x ∷ xs) = true

abbrev pub is_filled : Places → ℕ → Bool
is_filled s n = any_pass (λ (p : PortState). holds_some p.held.queue) (list_of (λ p. p ∷ []) (slice_get s.ports n))

-- the ports and the reply cells are as many as the book tells
pub record AreNumbered (s : Places) : Type 0 where
  pub ports : length s.ports ≡ suc s.book.held.ports
  pub replies : length s.replies ≡ s.book.held.processes

-- a reply waits in the cell of a process, by a test
abbrev pub is_answered : Places → ℕ → Bool
is_answered s p = any_pass (λ (r : ReplyState). holds_some r.waiting) (list_of (λ r. r ∷ []) (numbered_from_one p s.replies))

-- each reply cell is that of its number
abbrev pub AreOwned : Places → Type 0
AreOwned s = (p : ℕ) (r : ReplyState) → numbered_from_one p s.replies ≡ Some r → r.owner ≡ p

-- there is a port, and a reply cell, of this number
abbrev pub has_port : Places → ℕ → Bool
has_port s n = is_some (slice_get s.ports n)

abbrev pub has_replies : Places → ℕ → Bool
has_replies s p = is_some (numbered_from_one p s.replies)
