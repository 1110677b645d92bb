-- Tables that are to have other fields as their key.
use Rattle.std.specs.Prelude.{◌≡◌, ℕ, List, true, Option, Some, None, nat_le, ⊤}
use Rattle.herm_model.specs.Tables.{has_distinct_keys}
use Rattle.herm_model.specs.Typed.{greatest_rows}
use Rattle.herm_model.specs.Values.{a_table, Cell, cell, Parts, size, Value}
use Rattle.herm_values.specs.View.{table_parts}
use Rattle.herm_values.specs.Whole.{IsWholeTable}
use Rattle.herm_frames.specs.KeyedTables.{IsTableOf}
use Rattle.herm_frames.specs.declared.rekeying.Keying.{Keying}
use Rattle.herm_frames.specs.declared.rekeying.Keying.TheVariants as keying

-- no two rows have the same scalars at these fields, and there are no more rows than a table may have
abbrev pub DiffersBy : List ℕ → Parts ⊤ → Type 0
DiffersBy key rows = (has_distinct_keys key rows ≡ true) × (nat_le (size rows) greatest_rows ≡ true)

-- What is read is nothing, or a table whose rows differ by these fields. Language reference, "Tables".
abbrev pub CanHaveKey : List ℕ → Option Value → Type 0
CanHaveKey key None = Unit {0}
CanHaveKey key (Some (cell n k rows)) = (k ≡ a_table) × DiffersBy key rows

abbrev pub IsWholeKeying : Keying → Type 0
IsWholeKeying keying.Kept = Unit {0}
IsWholeKeying keying.Refused = Unit {0}
IsWholeKeying (keying.Anew t) = IsWholeTable t.value

-- It has these fields as its key, or nothing is there; it cannot have them; or this table has them, and the same rows.
abbrev pub IsKeying : Keying → (key : List ℕ) → Option (Cell (List ℕ)) → Option Value → Type 0
IsKeying keying.Kept key keyed seen = IsTableOf key keyed
IsKeying keying.Refused key keyed seen = CanHaveKey key seen → ⊥
IsKeying (keying.Anew t) key keyed seen = (t.value.columns.items ≡ key) × (Some (cell tt a_table (table_parts t.value)) ≡ seen)
