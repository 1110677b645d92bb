-- What contracts see of the book.
use Rattle.std.specs.Prelude.{ℕ, List, ◌≡◌, ◌≤◌}
use Rattle.herm_journal.specs.NextNumbers
use Rattle.herm_journal.specs.NextNumbers.{first_book}
use Rattle.herm_journal.specs.PlaceStates.{a_book}
use Rattle.herm_journal.specs.Entries.{book, Entry}
use Rattle.herm_base.specs.declared.limits.Limits.{Limits}
use Rattle.herm_queue.specs.CellStates.{CellState, IsReplayed}
use Rattle.herm_queue.specs.LogStates.{LogState}

abbrev pub limits_view : Limits → NextNumbers.Limits
limits_view l = record { steps = l.steps; processes = l.processes; ports = l.ports }

-- The book: what it holds, its clock, its history, and for how many actions more memory has been taken.
-- Language reference, "The book".
pub record BookState : Type 0 where
  pub held : NextNumbers.Book
  pub clock : ℕ
  pub entries : List Entry
  pub spare : ℕ

-- the book as a cell, which opens with port 1 and process 1
abbrev pub book_cell : BookState → CellState
book_cell s = record { place = book; opening = a_book (first_book s.held.limits); holding = a_book s.held; clock = s.clock; entries = s.entries; spare = s.spare }

-- its history tells what it holds
abbrev pub IsBook : BookState → Type 0
IsBook s = IsReplayed (book_cell s)

-- the fields of the book
abbrev pub counts_of : Limits → (ports processes : ℕ) → NextNumbers.Book
counts_of limits ports processes = record { ports = ports; processes = processes; limits = limits_view limits }

abbrev pub book_state : Limits → (ports processes : ℕ) → LogState → ℕ → BookState
book_state limits ports processes log spare = record { held = counts_of limits ports processes; clock = log.clock; entries = log.entries; spare = spare }

-- what they keep
pub record AreBook (limits : Limits) (ports processes : ℕ) (log : LogState) (spare : ℕ) : Type 0 where
  pub kept : IsBook (book_state limits ports processes log spare)
  pub place : log.place ≡ book
  pub entry_room : spare ≤ log.room
