-- Values without the fields that are the keys of their tables.
use Rattle.std.proofs.Common.{◌≡◌, ℕ, List, [], ◌∷◌, map, Option, Some, None, option_map, get_or, refl, sym, ap, ap₂, ◌∙◌, Vec, Global, Box}
use Rattle.std.proofs.Math.ListN as lists
use Rattle.herm_parcels.specs.declared.call.CallMsg.{CallMsg}
use Rattle.herm_rows.specs.Keys.{rows_of}
use Rattle.herm_model.specs.Values as model
use Rattle.herm_model.specs.Values.{Cell, Parts, cell, part, no_parts, place}
use Rattle.herm_model.specs.CellNames.{forget, forget_in, rename_in}
use Rattle.herm_values.specs.Parts.{parts_from, rows_at}
use Rattle.herm_values.specs.View.{value_view, held_views, held_view, views_of, places_of}
use Rattle.herm_values.specs.Keyed.{keyed_view, held_keyed, one_keyed, keyed_of, keyed_parts}
use Rattle.herm_values.specs.declared.value.Value.{Value, Fields, Table as a_table, Call}
use Rattle.herm_values.specs.declared.value.Value.TheBlock as values
use Rattle.herm_values.specs.declared.value.Table.{Table}
use Rattle.herm_values.proofs.Seen.{row_in}

parts-forgotten : (os : List (Option (Cell (List ℕ)))) → forget_in (parts_from os) ≡ parts_from (map (option_map forget) os)
parts-forgotten [] = refl
parts-forgotten (None ∷ os) = ap model.gap (parts-forgotten os)
parts-forgotten (Some c ∷ os) = ap (part (forget c)) (parts-forgotten os)

rows-forgotten : (ps : List ℕ) (os : List (Option (Cell (List ℕ)))) → map (option_map forget) (rows_at ps os) ≡ rows_at ps (map (option_map forget) os)
rows-forgotten [] os = refl
rows-forgotten (i ∷ ps) os = ap₂ ◌∷◌ (sym (lists.get_or-map (option_map forget) os i None)) (rows-forgotten ps os)

mutual
  pub forgotten : (v : Value) → forget (keyed_view v) ≡ value_view v
  forgotten (values.Bool b) = refl
  forgotten (values.Int n) = refl
  forgotten (values.Text t) = refl
  forgotten (values.Tag i) = refl
  forgotten (values.Fields' shape fields) = ap (cell tt model.a_record) (parts-forgotten (held_keyed fields) ∙ ap parts_from (held-forgotten fields))
  forgotten (values.Case' component pointer v) = ap (λ c. cell tt (model.a_variant component) (part c no_parts)) (forgotten v)
  forgotten (values.Table' pointer columns keys shape rows) =
      ap (cell tt model.a_table)
      (parts-forgotten (rows_at (places_of (rows_of keys)) (held_keyed rows))
      ∙ ap parts_from (rows-forgotten (places_of (rows_of keys)) (held_keyed rows) ∙ ap (rows_at (places_of (rows_of keys))) (held-forgotten rows)))
  forgotten (values.Poly' tag depth pointer v) = ap (λ c. cell tt (model.a_polymorph tag.0) (part c no_parts)) (forgotten v)
  forgotten (values.Call' caller call shape params) = ap (cell tt (model.a_callmessage caller.number call)) (parts-forgotten (held_keyed params) ∙ ap parts_from (held-forgotten params))
  forgotten (values.Inport port) = refl
  forgotten (values.Outport port) = refl

  held-forgotten : {m : _} (row : values.Row_of-Value-Fields-0-1 m) → map (option_map forget) (held_keyed row) ≡ held_views row
  held-forgotten values.end_of-Value-Fields-0-1 = refl
  held-forgotten (values.more_of-Value-Fields-0-1 held rest) = ap₂ ◌∷◌ (one-forgotten held) (held-forgotten rest)

  one-forgotten : (held : values.Held-Value-Fields-0-1) → option_map forget (one_keyed held) ≡ held_view held
  one-forgotten values.None' = refl
  one-forgotten (values.Some' v) = ap Some (forgotten v)

-- copies that are equal with their keys are equal
pub equal-keyed : (v copy : Value) → keyed_view copy ≡ keyed_view v → value_view copy ≡ value_view v
equal-keyed v copy same = sym (forgotten copy) ∙ ap forget same ∙ forgotten v

pub views-keyed : (vs : List (Option Value)) → map (option_map forget) (keyed_of vs) ≡ views_of vs
views-keyed [] = refl
views-keyed (None ∷ vs) = ap (λ os. None ∷ os) (views-keyed vs)
views-keyed (Some v ∷ vs) = ap₂ ◌∷◌ (ap Some (forgotten v)) (views-keyed vs)

pub equal-places : (vs copies : List (Option Value)) → keyed_of copies ≡ keyed_of vs → views_of copies ≡ views_of vs
equal-places vs copies same = sym (views-keyed copies) ∙ ap (map (option_map forget)) same ∙ views-keyed vs

row_keyed_seen : {m : _} (row : values.Row_of-Value-Fields-0-1 m) → held_keyed row ≡ keyed_of (values.items-the_row-Value-Fields-0-1 m row)
row_keyed_seen values.end_of-Value-Fields-0-1 = refl
row_keyed_seen (values.more_of-Value-Fields-0-1 values.None' rest) = ap (λ os. None ∷ os) (row_keyed_seen rest)
row_keyed_seen (values.more_of-Value-Fields-0-1 (values.Some' v) rest) = ap (λ os. Some (keyed_view v) ∷ os) (row_keyed_seen rest)

fields_held_keyed : (x : Vec (Option Value) Global) → held_keyed (row_in (Fields x)).1 ≡ keyed_of x.items
fields_held_keyed x = row_keyed_seen (row_in (Fields x)).1 ∙ ap keyed_of (values.items_hidden-the_row-Value-Fields-0-1-0 x)

pub fields_keyed : (v : Value) (x : Vec (Option Value) Global) → v ≡ Fields x → keyed_view v ≡ cell [] model.a_record (parts_from (keyed_of x.items))
fields_keyed v x is = ap keyed_view is ∙ ap (λ os. cell [] model.a_record (parts_from os)) (fields_held_keyed x)

pub table_keyed : (v : Value) (x : Box Table Global) → v ≡ a_table x → keyed_view v ≡ cell x.value.columns.items model.a_table (keyed_parts x.value)
table_keyed v x is = ap keyed_view is ∙ ap (λ os. cell x.value.columns.items model.a_table (parts_from (rows_at (places_of (rows_of x.value.keys)) os))) (fields_held_keyed x.value.rows)

pub call_keyed : (v : Value) (x : CallMsg Value) → v ≡ Call x → keyed_view v ≡ cell [] (model.a_callmessage x.caller.number x.call) (parts_from (keyed_of x.params.items))
call_keyed v x is = ap keyed_view is ∙ ap (λ os. cell [] (model.a_callmessage x.caller.number x.call) (parts_from os)) (fields_held_keyed x.params)
