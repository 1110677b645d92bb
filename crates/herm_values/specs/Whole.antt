-- Values whose depths and tables are right.
use Rattle.std.specs.Prelude.{◌≡◌, ◌≤◌, ◌↔◌, ◌⊎◌, ℕ, suc, List, Option, Some, None, get_or, IfSome}
use Rattle.std.specs.List.{All, AllByRecursion}
use Rattle.herm_rows.specs.Keys.{rows_of}
use Rattle.herm_model.specs.Values as model
use Rattle.herm_model.specs.Values.{polymorph_depth}
use Rattle.herm_model.specs.Lists.{IsIn}
use Rattle.herm_model.specs.Statements.{Differ}
use Rattle.herm_model.specs.Tables.{key_of}
use Rattle.herm_values.specs.View.{value_view, held_views, views_of, key_view, places_of}
use Rattle.herm_values.specs.declared.scalar.KeyRow.{KeyRow}
use Rattle.herm_values.specs.declared.value.Value.{Value}
use Rattle.herm_values.specs.declared.value.Value.TheBlock as values
use Rattle.herm_values.specs.declared.value.Table.{Table}

-- the place that a key names has a row, and its scalars at the key's fields are the key
pub record HasRow (columns : List ℕ) (rows : List (Option model.Value)) (key : KeyRow) : Type 0 where
  pub row : model.Value
  pub there : get_or rows key.place None ≡ Some row
  pub keyed : key_of columns row ≡ key_view key.key.items

-- A table's keys name different places, each with its row, and every other place is empty.
-- Language reference, "Tables".
pub record AreKept (columns : List ℕ) (keys : List KeyRow) (rows : List (Option model.Value)) : Type 0 where
  pub differ : Differ (places_of keys)
  pub found : AllByRecursion (HasRow columns rows) keys
  pub elsewhere : (i : ℕ) → (IsIn i (places_of keys) → ⊥) → get_or rows i None ≡ None

-- The depth of each polymorph in the value is that of its content and one more, at most 16, and each table in it keeps
-- its rows. Language reference, "Polymorphs".
abbrev mutual
  pub IsWhole : Value → Type 0
  IsWhole (values.Bool b) = Unit {0}
  IsWhole (values.Int n) = Unit {0}
  IsWhole (values.Text t) = Unit {0}
  IsWhole (values.Tag i) = Unit {0}
  IsWhole (values.Fields' shape fields) = AreWhole fields
  IsWhole (values.Case' component pointer v) = IsWhole v
  IsWhole (values.Table' pointer columns keys shape rows) = AreKept columns.items (rows_of keys) (held_views rows) × AreWhole rows
  IsWhole (values.Poly' tag depth pointer v) = (depth ≡ suc (polymorph_depth (value_view v))) × (depth ≤ 16) × IsWhole v
  IsWhole (values.Call' caller call shape params) = AreWhole params
  IsWhole (values.Inport port) = Unit {0}
  IsWhole (values.Outport port) = Unit {0}

  pub AreWhole : {m : _} → values.Row_of-Value-Fields-0-1 m → Type 0
  AreWhole values.end_of-Value-Fields-0-1 = Unit {0}
  AreWhole (values.more_of-Value-Fields-0-1 held rest) = IsHeldWhole held × AreWhole rest

  pub IsHeldWhole : values.Held-Value-Fields-0-1 → Type 0
  IsHeldWhole values.None' = Unit {0}
  IsHeldWhole (values.Some' v) = IsWhole v

-- each value at these places is whole
abbrev pub AllWhole : List (Option Value) → Type 0
AllWhole vs = All (λ o. IfSome o IsWhole) vs

-- the table keeps its rows, and each of them is whole
pub record IsWholeTable (t : Table) : Type 0 where
  pub kept : AreKept t.columns.items (rows_of t.keys) (views_of t.rows.items)
  pub whole : AllWhole t.rows.items

-- the value itself is a row of the table, with all that no view tells
abbrev pub IsRowOf : Table → Value → Type 0
IsRowOf t v = (i : ℕ) × (get_or t.rows.items i None ≡ Some v)

-- the rows that the table has are those that it had, and this one
abbrev pub HasOneMore : Table → Table → Value → Type 0
HasOneMore old new row = (v : Value) → IsRowOf new v ↔ (IsRowOf old v ⊎ (v ≡ row))

-- the rows that the table has are those that it had, but for this one, where there is one
abbrev pub HasAllBut : Table → Table → Option Value → Type 0
HasAllBut old new lost = (v : Value) → (IsRowOf new v → IsRowOf old v) × (IsRowOf old v → IsRowOf new v ⊎ (lost ≡ Some v))

-- the table is as it was, but for the room that it has
pub record IsAsItWas (old new : Table) : Type 0 where
  pub columns : new.columns ≡ old.columns
  pub keys : new.keys ≡ old.keys
  pub rows : new.rows.items ≡ old.rows.items
