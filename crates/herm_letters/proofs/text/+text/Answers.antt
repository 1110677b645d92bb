use Rattle.std.proofs.Common.{◌++◌, ◌∷◌, [], option_map, sym, ap, ◌∙◌}
use Rattle.herm_model.specs.Values.{a_callmessage}
use Rattle.herm_model.specs.ValueTexts.{parts_text, opening}
use Rattle.herm_values.specs.Parts.{parts_from}
use Rattle.herm_values.specs.View.{value_view, views_of, table_parts}
use Rattle.std.proofs.lemmas.List.{append-nil}
use Rattle.herm_values.proofs.Walked.{none-rows}
use Rattle.herm_letters.proofs.Joined.{place_text}
use Rattle.herm_letters.proofs.Layers.{fields_text, table_text, call_text}
use Rattle.herm_letters.proofs.Written.{around, place_written}
use Rattle.herm_letters.proofs.text.+text.Goals as goal

pub push_places-places-preserved-in_default : goal.push_places-places-preserved-in_default
push_places-places-preserved-in_default t c =
    place_written _ _ _ _ _ _ _ c.places-test.true c.index-places-n.is c.places.invariant c.in_ok-push_comma_behind.ensures
    (c.in_ok-push.ensures.items ∙ ap (λ o. c.push_comma_behind.new.out.items ++ place_text (option_map value_view o)) (sym c.in_default.is))

pub push_places-places-preserved : goal.push_places-places-preserved
push_places-places-preserved t c =
    place_written _ _ _ _ _ _ _ c.places-test.true c.index-places-n.is c.places.invariant c.in_ok-push_comma_behind.ensures
    (c.in_ok-push_text.ensures ∙ ap (λ o. c.push_comma_behind.new.out.items ++ place_text (option_map value_view o)) (sym c.in-Some.is))

pub push_text-returns-in_ok-push-in-Fields-2 : goal.push_text-returns-in_ok-push-in-Fields-2
push_text-returns-in_ok-push-in-Fields-2 t c =
    around _ (123 ∷ []) _ (125 ∷ []) _ _ _ c.in_ok-push-in-Fields.ensures.items c.in_ok-push_places-in-Fields.ensures c.in_ok-push-in-Fields-2.ensures.items
    ∙ ap (λ xs. c.args.out.now.items ++ 123 ∷ (parts_text (parts_from (views_of xs)) [] ++ 125 ∷ [])) c.as_slice.ensures.value
    ∙ ap (c.args.out.now.items ++◌) (sym (fields_text _ _ c.in-Fields.is))

pub push_text-returns-in_ok-push-in-Table-2 : goal.push_text-returns-in_ok-push-in-Table-2
push_text-returns-in_ok-push-in-Table-2 t c =
    around _ (91 ∷ []) _ (93 ∷ []) _ _ _ c.in_ok-push-in-Table.ensures.items c.in_ok-push_rows-in-Table.ensures c.in_ok-push-in-Table-2.ensures.items
    ∙ ap (λ table. c.args.out.now.items ++ 91 ∷ (parts_text (table_parts table) [] ++ 93 ∷ [])) c.deref-in-Table.ensures
    ∙ ap (c.args.out.now.items ++◌) (sym (table_text _ _ c.in-Table.is))

pub push_text-returns-in_ok-push-in-Call : goal.push_text-returns-in_ok-push-in-Call
push_text-returns-in_ok-push-in-Call t c =
    around _ (opening (a_callmessage c.caller.result.number c.call.result)) _ (41 ∷ []) _ _ _ c.in_ok-push_callmessage-in-Call.ensures c.in_ok-push_places-in-Call.ensures c.in_ok-push-in-Call.ensures.items
    ∙ ap (λ caller. c.args.out.now.items ++ (opening (a_callmessage caller.number c.call.result) ++ (parts_text (parts_from (views_of c.params.result.now)) [] ++ 41 ∷ []))) c.caller.ensures.caller
    ∙ ap (λ call. c.args.out.now.items ++ (opening (a_callmessage c.in-Call.call.caller.number call) ++ (parts_text (parts_from (views_of c.params.result.now)) [] ++ 41 ∷ []))) c.call.ensures.call
    ∙ ap (λ xs. c.args.out.now.items ++ (opening (a_callmessage c.in-Call.call.caller.number c.in-Call.call.call) ++ (parts_text (parts_from (views_of xs)) [] ++ 41 ∷ []))) c.params.ensures.params
    ∙ ap (c.args.out.now.items ++◌) (sym (call_text _ _ c.in-Call.is))

pub push_rows-returns : goal.push_rows-returns
push_rows-returns t c =
    sym (append-nil c.rows.out.items)
    ∙ ap (λ rows. c.rows.out.items ++ parts_text (parts_from rows) c.rows.before.now) (sym (none-rows c.args.table.now c.rows.next c.in_default.is))
    ∙ c.rows.invariant.written
