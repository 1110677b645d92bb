-- Values with the fields that are the key of each table: trees whose cells have these places as names.
use Rattle.std.specs.Prelude.{ℕ, List, [], ◌∷◌, map, option_map, Option, Some, None}
use Rattle.herm_rows.specs.Keys.{rows_of}
use Rattle.herm_model.specs.Values as model
use Rattle.herm_model.specs.Values.{Cell, Parts, cell, no_parts, part}
use Rattle.herm_values.specs.Parts.{parts_from, rows_at}
use Rattle.herm_values.specs.View.{places_of}
use Rattle.herm_values.specs.declared.value.Value.{Value}
use Rattle.herm_values.specs.declared.value.Value.TheBlock as values
use Rattle.herm_values.specs.declared.value.Table.{Table}

abbrev pub plain_leaf : model.Kind → Cell (List ℕ)
plain_leaf kind = cell [] kind no_parts

-- The tree that a value is, each table with the places of its key's fields. Without them it is the value's view.
-- Language reference, "Tables".
abbrev mutual
  pub keyed_view : Value → Cell (List ℕ)
  keyed_view (values.Bool b) = plain_leaf (model.a_scalar (model.a_boolean b))
  keyed_view (values.Int n) = plain_leaf (model.a_scalar (model.an_integer n))
  keyed_view (values.Text t) = plain_leaf (model.a_scalar (model.a_text t))
  keyed_view (values.Tag i) = plain_leaf (model.a_scalar (model.a_tag i))
  keyed_view (values.Fields' shape fields) = cell [] model.a_record (parts_from (held_keyed fields))
  keyed_view (values.Case' component pointer v) = cell [] (model.a_variant component) (part (keyed_view v) no_parts)
  keyed_view (values.Table' pointer columns keys shape rows) = cell columns.items model.a_table (parts_from (rows_at (places_of (rows_of keys)) (held_keyed rows)))
  keyed_view (values.Poly' tag depth pointer v) = cell [] (model.a_polymorph tag.0) (part (keyed_view v) no_parts)
  keyed_view (values.Call' caller call shape params) = cell [] (model.a_callmessage caller.number call) (parts_from (held_keyed params))
  keyed_view (values.Inport port) = plain_leaf (model.an_inport port.number)
  keyed_view (values.Outport port) = plain_leaf (model.an_outport port.number)

  pub held_keyed : {m : _} → values.Row_of-Value-Fields-0-1 m → List (Option (Cell (List ℕ)))
  held_keyed values.end_of-Value-Fields-0-1 = []
  held_keyed (values.more_of-Value-Fields-0-1 held rest) = one_keyed held ∷ held_keyed rest

  pub one_keyed : values.Held-Value-Fields-0-1 → Option (Cell (List ℕ))
  one_keyed values.None' = None
  one_keyed (values.Some' v) = Some (keyed_view v)

-- places of the code, each with a value or empty
abbrev pub keyed_of : List (Option Value) → List (Option (Cell (List ℕ)))
keyed_of vs = map (option_map keyed_view) vs

-- the parts that a table has
abbrev pub keyed_parts : Table → Parts (List ℕ)
keyed_parts t = parts_from (rows_at (places_of (rows_of t.keys)) (keyed_of t.rows.items))
