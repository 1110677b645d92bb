-- A history with the clock of its place.
use Rattle.std.specs.Prelude.{ℕ, suc, max, List, [], ◌∷◌, ◌++◌, ◌-◌}
use Rattle.herm_journal.specs.Entries.{Place, Record, Entry}

-- a place with its clock, its entries, and for how many more there is room
pub record LogState : Type 0 where
  pub place : Place
  pub clock : ℕ
  pub entries : List Entry
  pub room : ℕ

-- behind an action of a process with this clock
abbrev pub with_action : (process clock : ℕ) → Record → LogState → LogState
with_action process clock a l = record l { clock = suc (max clock l.clock); entries = l.entries ++ record { stamp = suc (max clock l.clock); process = process; place = l.place; action = a } ∷ []; room = l.room - 1 }
