-- The texts of values with parts.
use Rattle.std.proofs.Common.{◌≡◌, [], ◌∷◌, ◌++◌, Option, ap, Vec, Global, Box}
use Rattle.herm_parcels.specs.declared.call.CallMsg.{CallMsg}
use Rattle.herm_model.specs.Values.{a_callmessage}
use Rattle.herm_model.specs.ValueTexts.{text_of, parts_text, opening}
use Rattle.herm_values.specs.Parts.{parts_from}
use Rattle.herm_values.specs.View.{value_view, views_of, table_parts}
use Rattle.herm_values.specs.declared.value.Value.{Value, Fields, Table as a_table, Call}
use Rattle.herm_values.specs.declared.value.Table.{Table}
use Rattle.herm_values.proofs.Seen.{fields_view, table_view, call_view}

pub fields_text : (v : Value) (x : Vec (Option Value) Global) → v ≡ Fields x → text_of (value_view v) ≡ 123 ∷ (parts_text (parts_from (views_of x.items)) [] ++ 125 ∷ [])
fields_text v x is = ap text_of (fields_view v x is)

pub table_text : (v : Value) (x : Box Table Global) → v ≡ a_table x → text_of (value_view v) ≡ 91 ∷ (parts_text (table_parts x.value) [] ++ 93 ∷ [])
table_text v x is = ap text_of (table_view v x is)

pub call_text : (v : Value) (x : CallMsg Value) → v ≡ Call x → text_of (value_view v) ≡ opening (a_callmessage x.caller.number x.call) ++ (parts_text (parts_from (views_of x.params.items)) [] ++ 41 ∷ [])
call_text v x is = ap text_of (call_view v x is)

pub ruleset layer_texts = (fields_text, table_text, call_text)
