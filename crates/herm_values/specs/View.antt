-- How contracts see values: as trees of cells without names.
use Rattle.std.specs.Prelude.{ℕ, List, [], ◌∷◌, map, option_map, Option, Some, None, ⊤, drop, length}
use Rattle.herm_links.specs.declared.links.NodeNo.{NodeNo}
use Rattle.herm_rows.specs.Keys.{rows_of}
use Rattle.herm_rows.specs.Nodes.{place_at}
use Rattle.herm_model.specs.Values as model
use Rattle.herm_model.specs.Values.{cell, no_parts, part}
use Rattle.herm_values.specs.Parts.{parts_from, rows_at}
use Rattle.herm_values.specs.declared.scalar.KeyRow.{KeyRow}
use Rattle.herm_values.specs.declared.scalar.Scalar.{Scalar}
use Rattle.herm_values.specs.declared.scalar.Scalar.TheVariants as scalars
use Rattle.herm_values.specs.declared.value.Value.{Value}
use Rattle.herm_values.specs.declared.value.Value.TheBlock as values
use Rattle.herm_values.specs.declared.value.Table.{Table}

abbrev pub scalar_view : Scalar → model.Scalar
scalar_view (scalars.Bool b) = model.a_boolean b
scalar_view (scalars.Int n) = model.an_integer n
scalar_view (scalars.Text t) = model.a_text t
scalar_view (scalars.Tag i) = model.a_tag i

-- the scalars of a key
abbrev pub key_view : List Scalar → List model.Scalar
key_view key = map scalar_view key

-- the places that keys name
abbrev pub places_of : List KeyRow → List ℕ
places_of keys = map (λ row. row.place) keys

-- a cell without parts
abbrev pub leaf : model.Kind → model.Value
leaf kind = cell tt kind no_parts

-- The tree that a value is. A table's parts are the rows at the places that its keys name, in the order of the keys.
-- Language reference, "Values".
abbrev mutual
  pub value_view : Value → model.Value
  value_view (values.Bool b) = leaf (model.a_scalar (model.a_boolean b))
  value_view (values.Int n) = leaf (model.a_scalar (model.an_integer n))
  value_view (values.Text t) = leaf (model.a_scalar (model.a_text t))
  value_view (values.Tag i) = leaf (model.a_scalar (model.a_tag i))
  value_view (values.Fields' shape fields) = cell tt model.a_record (parts_from (held_views fields))
  value_view (values.Case' component pointer v) = cell tt (model.a_variant component) (part (value_view v) no_parts)
  value_view (values.Table' pointer columns keys shape rows) = cell tt model.a_table (parts_from (rows_at (places_of (rows_of keys)) (held_views rows)))
  value_view (values.Poly' tag depth pointer v) = cell tt (model.a_polymorph tag.0) (part (value_view v) no_parts)
  value_view (values.Call' caller call shape params) = cell tt (model.a_callmessage caller.number call) (parts_from (held_views params))
  value_view (values.Inport port) = leaf (model.an_inport port.number)
  value_view (values.Outport port) = leaf (model.an_outport port.number)

  pub held_views : {m : _} → values.Row_of-Value-Fields-0-1 m → List (Option model.Value)
  held_views values.end_of-Value-Fields-0-1 = []
  held_views (values.more_of-Value-Fields-0-1 held rest) = held_view held ∷ held_views rest

  pub held_view : values.Held-Value-Fields-0-1 → Option model.Value
  held_view values.None' = None
  held_view (values.Some' v) = Some (value_view v)

-- places of the code, each with a value or empty
abbrev pub views_of : List (Option Value) → List (Option model.Value)
views_of vs = map (option_map value_view) vs

-- the rows of a table, in the order of its keys
abbrev pub row_views : Table → List (Option model.Value)
row_views t = rows_at (places_of (rows_of t.keys)) (views_of t.rows.items)

-- the parts that a table has
abbrev pub table_parts : Table → model.Parts ⊤
table_parts t = parts_from (row_views t)

-- the rows of a table from a node on, and no rows from none on
unfoldable pub rows_from : Table → Option NodeNo → List (Option model.Value)
rows_from t node = drop (place_at t.keys node) (row_views t)

-- how many places for rows the table keeps in memory, with a row or empty
abbrev pub places_in : Table → ℕ
places_in t = length t.rows.items
