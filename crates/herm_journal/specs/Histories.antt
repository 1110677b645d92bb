-- The history of a place, replayed. Language reference, "Histories".
use Rattle.std.specs.Prelude.{ℕ, List, [], ◌∷◌, cond, nat_eq, ◌<◌, ⊤}
use Rattle.herm_journal.specs.Actions.{Reply}
use Rattle.herm_journal.specs.Ports.{empty_port, port_with}
use Rattle.herm_journal.specs.NextNumbers.{Limits, first_book}
use Rattle.herm_journal.specs.PlaceStates.{PlaceState, a_port, replies, a_book, IsEnabled, after}
use Rattle.herm_journal.specs.Entries.{Text, Place, port, reply_cell, book, Entry}

-- what a place holds, as its history tells it
abbrev pub Told : Type 0
Told = PlaceState Text (Reply Text)

-- What a place holds at the start, where the first message has this text: it is queued at port 1; every other port is
-- open and empty, reply cells are empty, and the book has one port and one process. Language reference, "Opening state".
abbrev pub first_recorded_state : Limits → Text → Place → Told
first_recorded_state limits message (port n) = a_port (cond (nat_eq n 1) (port_with message) empty_port)
first_recorded_state limits message (reply_cell p) = replies []
first_recorded_state limits message book = a_book (first_book limits)

-- A place with its clock.
pub record Replayed : Type 0 where
  pub holding : Told
  pub clock : ℕ

-- a place at the start
abbrev pub at_start : Told → Replayed
at_start h = record { holding = h; clock = 0 }

abbrev pub after_entry : Entry → Replayed → Replayed
after_entry e r = record { holding = after e.action r.holding; clock = e.stamp }

-- The place behind these entries of its history. Language reference, "Histories".
abbrev pub replay : List Entry → Replayed → Replayed
replay [] r = r
replay (e ∷ es) r = replay es (after_entry e r)

-- The entries can be a history from there: each action fits what the entries before it leave, and stamps rise.
-- Language reference, "Histories".
abbrev pub IsLegal : List Entry → Replayed → Type 0
IsLegal [] r = ⊤
IsLegal (e ∷ es) r = IsEnabled r.holding e.action × (r.clock < e.stamp) × IsLegal es (after_entry e r)
