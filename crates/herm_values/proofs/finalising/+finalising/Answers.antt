use Rattle.std.proofs.Common.{rules, ◌++◌, sym, ap, ◌∙◌}
use Rattle.std.proofs.lemmas.List.{append-nil}
use Rattle.herm_model.specs.Finalising.{pending_in}
use Rattle.herm_values.specs.Parts.{parts_from}
use Rattle.herm_values.proofs.Walked.{none-rows}
use Rattle.herm_values.specs.declared.value.Value.{the_lemmas}
use Rattle.herm_values.proofs.Finalised.{fields-wait, rows-wait, params-wait, call-waiting}
use Rattle.herm_values.specs.Works.{waiting, spare}
use Rattle.herm_values.proofs.finalising.+finalising.Goals as goal

pub put_pending-put_places-requires : goal.put_pending-put_places-requires
put_pending-put_places-requires t c = (search (rules, the_lemmas), fields-wait c.args.v.now c.in-Fields.fields c.as_slice.result.now (spare c.args.work.now) c.in-Fields.is c.as_slice.ensures.value c.requires.room)

pub put_pending-put_rows-requires : goal.put_pending-put_rows-requires
put_pending-put_rows-requires t c = (search (rules, the_lemmas), rows-wait c.args.v.now c.in-Table.table c.deref-in-Table.result.now (spare c.args.work.now) c.in-Table.is c.deref-in-Table.ensures c.requires.room)

pub put_pending-put_places-requires-in-Call : goal.put_pending-put_places-requires-in-Call
put_pending-put_places-requires-in-Call t c = (search (rules, the_lemmas), params-wait c.args.v.now c.in-Call.call c.params.result.now (spare c.args.work.now) (spare c.put.new.self) c.in-Call.is c.params.ensures.params c.put.ensures.spare c.requires.room)

pub put_pending-returns-in-Call-clause-waiting : goal.put_pending-returns-in-Call-clause-waiting
put_pending-returns-in-Call-clause-waiting t c = call-waiting c.args.v.now c.in-Call.call c.params.result.now (waiting c.args.work.now) (waiting c.put.new.self) (waiting c.put_places-in-Call.new.work) c.caller.result c.call.result c.in-Call.is c.params.ensures.params c.caller.ensures.caller c.call.ensures.call c.put.ensures.waiting c.put_places-in-Call.ensures.waiting

pub put_rows-returns-clause-waiting : goal.put_rows-returns-clause-waiting
put_rows-returns-clause-waiting t c =
    sym (append-nil (waiting c.rows.work))
    ∙ ap (λ rows. waiting c.rows.work ++ pending_in (parts_from rows)) (sym (none-rows c.args.table.now c.rows.next c.in_default.is))
    ∙ c.rows.invariant.items
