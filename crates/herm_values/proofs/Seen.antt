-- Values are seen as the lists of the code say.
use Rattle.std.proofs.Common.{◌≡◌, ◌∷◌, Option, Some, None, refl, ap, ◌∙◌, Vec, Global, Box}
use mathlib.Core.Former.{Count}
use Rattle.herm_parcels.specs.declared.call.CallMsg.{CallMsg}
use Rattle.herm_rows.specs.Keys.{rows_of}
use Rattle.herm_model.specs.Values as model
use Rattle.herm_model.specs.Values.{cell}
use Rattle.herm_values.specs.Parts.{parts_from, rows_at}
use Rattle.herm_values.specs.View.{value_view, held_views, views_of, table_parts, places_of}
use Rattle.herm_values.specs.declared.value.Value.{Value, Fields, Table as a_table, Call}
use Rattle.herm_values.specs.declared.value.Value.TheBlock as values
use Rattle.herm_values.specs.declared.value.Table.{Table}

-- the places of a row of the code
abbrev pub row_in : Value → (m : Count) × values.Row_of-Value-Fields-0-1 m
row_in (values.Fields' shape row) = (_, row)
row_in (values.Table' pointer columns keys shape row) = (_, row)
row_in (values.Call' caller call shape row) = (_, row)
row_in v = (_, values.end_of-Value-Fields-0-1)

row_views_seen : {m : _} (row : values.Row_of-Value-Fields-0-1 m) → held_views row ≡ views_of (values.items-the_row-Value-Fields-0-1 m row)
row_views_seen values.end_of-Value-Fields-0-1 = refl
row_views_seen (values.more_of-Value-Fields-0-1 values.None' rest) = ap (λ os. None ∷ os) (row_views_seen rest)
row_views_seen (values.more_of-Value-Fields-0-1 (values.Some' v) rest) = ap (λ os. Some (value_view v) ∷ os) (row_views_seen rest)

pub fields_held : (x : Vec (Option Value) Global) → held_views (row_in (Fields x)).1 ≡ views_of x.items
fields_held x = row_views_seen (row_in (Fields x)).1 ∙ ap views_of (values.items_hidden-the_row-Value-Fields-0-1-0 x)

pub fields_view : (v : Value) (x : Vec (Option Value) Global) → v ≡ Fields x → value_view v ≡ cell tt model.a_record (parts_from (views_of x.items))
fields_view v x is = ap value_view is ∙ ap (λ os. cell tt model.a_record (parts_from os)) (fields_held x)

pub table_view : (v : Value) (x : Box Table Global) → v ≡ a_table x → value_view v ≡ cell tt model.a_table (table_parts x.value)
table_view v x is = ap value_view is ∙ ap (λ os. cell tt model.a_table (parts_from (rows_at (places_of (rows_of x.value.keys)) os))) (fields_held x.value.rows)

pub call_view : (v : Value) (x : CallMsg Value) → v ≡ Call x → value_view v ≡ cell tt (model.a_callmessage x.caller.number x.call) (parts_from (views_of x.params.items))
call_view v x is = ap value_view is ∙ ap (λ os. cell tt (model.a_callmessage x.caller.number x.call) (parts_from os)) (fields_held x.params)

pub ruleset layers = (fields_view, table_view, call_view)
