-- Tables whose key has the fields that their type says, and rows that go into them.
use Rattle.std.specs.Prelude.{◌≡◌, ℕ, List, Bool, true, false, Option, Some, None, nat_lt, ⊤}
use Rattle.herm_model.specs.Calls.{shape_at}
use Rattle.herm_model.specs.Lists.{IsIn}
use Rattle.herm_model.specs.Outcomes.{ok}
use Rattle.herm_model.specs.Paths.{Path}
use Rattle.herm_model.specs.Tables.{has_key, key_of}
use Rattle.herm_model.specs.Typed.{greatest_rows}
use Rattle.herm_model.specs.Types.{fields}
use Rattle.herm_model.specs.Values.{a_table, Cell, cell, parts_of, size, Value}
use Rattle.herm_model.specs.WellFormedTables.{IsScalarField}
use Rattle.herm_forms.specs.Frames.{Frame, Completion, goes, reading}
use Rattle.herm_forms.specs.InsertForm.{add_row, change_rows}
use Rattle.herm_forms.specs.Modules.{Module}

-- What is read is nothing, or a table with these fields as its key. Language reference, "Tables".
abbrev pub IsTableOf : List ℕ → Option (Cell (List ℕ)) → Type 0
IsTableOf key None = Unit {0}
IsTableOf key (Some (cell columns k ps)) = (columns ≡ key) × (k ≡ a_table)

-- What is at a path is of a record type, of which these fields are scalars. Language reference, "Tables".
pub record HasKeyFields (c : Module) (key : List ℕ) (row : Path) : Type 0 where
  pub types : List ℕ
  pub shape : shape_at c.types c.variables row ≡ Some (fields types)
  pub scalars : (i : ℕ) → IsIn i key → IsScalarField c.types types i

-- the row goes behind the others of what is read at a path
abbrev pub adding : Path → Value → Frame ⊤ → Completion ⊤
adding t row b = reading t (λ table. goes ok (change_rows t (add_row row) b)) b

-- where something is read, none of its rows has this row's key, and there is room for one more
abbrev pub Allows : List ℕ → Value → Option Value → Type 0
Allows key row None = Unit {0}
Allows key row (Some table) = (has_key key (key_of key row) (parts_of table) ≡ false) × (nat_lt (size (parts_of table)) greatest_rows ≡ true)
