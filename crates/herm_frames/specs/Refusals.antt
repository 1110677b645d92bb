-- When a row is refused.
use Rattle.std.specs.Prelude.{◌≡◌, ℕ, List, Bool, true, false, cond, Option, Some, None, nat_lt, ⊤}
use Rattle.herm_base.specs.declared.numbers.ExcNo.{ExcNo}
use Rattle.herm_model.specs.Paths.{Path}
use Rattle.herm_model.specs.Tables.{has_key, key_of}
use Rattle.herm_model.specs.Typed.{greatest_rows}
use Rattle.herm_model.specs.Values.{a_table, cell, cell_at, Parts, read_at, size, Value}
use Rattle.herm_forms.specs.Frames.{Frame}
use Rattle.herm_frames.specs.KeyedTables.{Allows}

-- What a table with this key and these rows raises at a row: DuplicateKey where one of them has its key, else Depletion where
-- there is no room. Language reference, "Tables".
abbrev pub refusal : List ℕ → Value → Parts ⊤ → Option ℕ
refusal key row rows = cond (has_key key (key_of key row) rows) (Some 4) (cond (nat_lt (size rows) greatest_rows) None (Some 1))

-- there is a row at a path, and a table at the other, which allows it
pub record IsAllowed (key : List ℕ) (r t : Path) (s : Frame ⊤) : Type 0 where
  pub row : Value
  pub at : cell_at r s.variables ≡ Some row
  pub rows : Parts ⊤
  pub read : read_at t s.variables ≡ Some (cell tt a_table rows)
  pub allows : Allows key row (Some (cell tt a_table rows))
