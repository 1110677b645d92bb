use Rattle.std.proofs.Common.{◌∙◌, ap, refl, get_or, option_map, None}
use Rattle.herm_model.specs.Values as model
use Rattle.herm_values.specs.View.{value_view, views_of}
use Rattle.herm_values.proofs.Seen.{fields_view, call_view}
use Rattle.herm_values.proofs.Looked.{field-at}
use Rattle.herm_values.proofs.keys.field_at.Goals as goal

pub returns-in-Fields : goal.returns-in-Fields
returns-in-Fields c =
    field-at (value_view c.args.row.now) model.a_record (views_of c.in-Fields.fields.items) c.args.column (option_map (λ v. value_view v.now) c.held_at.result)
    (fields_view c.args.row.now c.in-Fields.fields c.in-Fields.is) refl
    (c.held_at.ensures.held ∙ ap (λ places. get_or (views_of places) c.args.column None) c.as_slice.ensures.value)

pub returns-in-Call : goal.returns-in-Call
returns-in-Call c =
    field-at (value_view c.args.row.now) (model.a_callmessage c.in-Call.call.caller.number c.in-Call.call.call) (views_of c.in-Call.call.params.items) c.args.column (option_map (λ v. value_view v.now) c.held_at-in-Call.result)
    (call_view c.args.row.now c.in-Call.call c.in-Call.is) refl
    (c.held_at-in-Call.ensures.held ∙ ap (λ places. get_or (views_of places) c.args.column None) c.params.ensures.params)
