-- What taking a row out of a table leaves.
use Rattle.std.specs.Prelude.{◌≡◌, ℕ, List, Option, Some, None, ⊤}
use Rattle.herm_model.specs.Paths.{Path}
use Rattle.herm_model.specs.Tables.{place_of_key, without_part}
use Rattle.herm_model.specs.Values.{a_table, cell, change_at, part_at, Parts, read_at, Scalar}
use Rattle.herm_forms.specs.InsertForm.{with_parts}
use Rattle.herm_values.specs.Keys.{row_with}
use Rattle.herm_values.specs.View.{value_view}
use Rattle.herm_values.specs.Whole.{IsWhole}
use Rattle.herm_frames.specs.declared.insertions.TakenRow.{TakenRow}
use Rattle.herm_frames.specs.declared.insertions.TakenRow.TheVariants as taken

abbrev pub IsWholeTaken : TakenRow → Type 0
IsWholeTaken taken.NoTable = Unit {0}
IsWholeTaken taken.NoRow = Unit {0}
IsWholeTaken (taken.Row v) = IsWhole v

-- Nothing is read at the path; or no row of the table there has the key, and all is as it was; or this row has it, and is gone.
-- Language reference, "Tables".
abbrev pub IsRemoved : TakenRow → (columns : List ℕ) → (key : List Scalar) → Path → (old new : Parts ⊤) → Type 0
IsRemoved taken.NoTable columns key t old new = None ≡ read_at t old
IsRemoved taken.NoRow columns key t old new = (rows : Parts ⊤) × (Some (cell tt a_table rows) ≡ read_at t old) × (row_with columns key rows ≡ None) × (new ≡ old)
IsRemoved (taken.Row v) columns key t old new =
    (rows : Parts ⊤) × (Some (cell tt a_table rows) ≡ read_at t old) × (i : ℕ) × (place_of_key columns key rows ≡ Some i) × (part_at i rows ≡ Some (value_view v))
    × (new ≡ change_at t (with_parts (without_part i)) old)
