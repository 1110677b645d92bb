use Rattle.std.proofs.Common.{rules, ◌∙◌, sym, ap, subst}
use Rattle.herm_values.specs.Keyed.{keyed_of}
use Rattle.herm_values.specs.Whole.{AllWhole, IsWholeTable}
use Rattle.herm_values.specs.declared.value.Table.{roll-Table}
use Rattle.herm_values.proofs.Wholes.{fields-whole, call-whole, table-whole, whole-fields, whole-call, whole-table}
use Rattle.herm_values.proofs.Copied.{fields-copied, table-copied, call-copied, parts-copied, table-kept}
use Rattle.herm_values.specs.declared.value.Value.{the_lemmas, Fields, Table as a_table, Call}
use Rattle.herm_values.proofs.Forgotten.{equal-keyed}
use Rattle.herm_values.proofs.copying.+copying.Goals as goal

pub copy_value-copy_places-requires : goal.copy_value-copy_places-requires
copy_value-copy_places-requires t c = (search (rules, the_lemmas), subst AllWhole (sym c.as_slice.ensures.value) (fields-whole c.args.v.now c.in-Fields.fields c.in-Fields.is c.requires.whole))

pub copy_value-returns-in_ok-copies-in-Fields-clause-keyed : goal.copy_value-returns-in_ok-copies-in-Fields-clause-keyed
copy_value-returns-in_ok-copies-in-Fields-clause-keyed t c = fields-copied c.args.v.now c.in-Fields.fields c.in_ok-copies-in-Fields.copies c.as_slice.result.now c.in-Fields.is c.as_slice.ensures.value c.in_ok-copies-in-Fields.ensures.keyed

pub copy_value-returns-in_ok-copies-in-Fields-clause-whole : goal.copy_value-returns-in_ok-copies-in-Fields-clause-whole
copy_value-returns-in_ok-copies-in-Fields-clause-whole t c = whole-fields c.in_ok-copies-in-Fields.copies c.in_ok-copies-in-Fields.ensures.whole

pub copy_value-copy_table-requires : goal.copy_value-copy_table-requires
copy_value-copy_table-requires t c = (search (rules, the_lemmas), subst IsWholeTable (sym c.deref-in-Table.ensures) (table-whole c.args.v.now c.in-Table.table c.in-Table.is c.requires.whole))

pub copy_value-returns-in_ok-boxed-in-Table-clause-keyed : goal.copy_value-returns-in_ok-boxed-in-Table-clause-keyed
copy_value-returns-in_ok-boxed-in-Table-clause-keyed t c = table-copied c.args.v.now c.in-Table.table c.in_ok-boxed-in-Table.boxed c.deref-in-Table.result.now c.in_ok-copied-in-Table.copied c.in-Table.is c.deref-in-Table.ensures c.in_ok-copied-in-Table.ensures.columns c.in_ok-copied-in-Table.ensures.keyed c.in_ok-boxed-in-Table.ensures.ok

pub copy_value-returns-in_ok-boxed-in-Table-clause-whole : goal.copy_value-returns-in_ok-boxed-in-Table-clause-whole
copy_value-returns-in_ok-boxed-in-Table-clause-whole t c = whole-table c.in_ok-boxed-in-Table.boxed (subst IsWholeTable (sym c.in_ok-boxed-in-Table.ensures.ok) c.in_ok-copied-in-Table.ensures.whole)

pub copy_value-copy_places-requires-in-Call : goal.copy_value-copy_places-requires-in-Call
copy_value-copy_places-requires-in-Call t c = (search (rules, the_lemmas), subst AllWhole (sym c.params.ensures.params) (call-whole c.args.v.now c.in-Call.call c.in-Call.is c.requires.whole))

pub copy_value-returns-in_ok-params-in-Call-clause-keyed : goal.copy_value-returns-in_ok-params-in-Call-clause-keyed
copy_value-returns-in_ok-params-in-Call-clause-keyed t c =
    call-copied c.args.v.now c.in-Call.call c.new-in-Call.result c.params.result.now c.in-Call.is (c.new-in-Call.ensures.caller ∙ c.caller.ensures.caller) (c.new-in-Call.ensures.call ∙ c.call.ensures.call) c.params.ensures.params
    (ap (λ params. keyed_of params.items) c.new-in-Call.ensures.params ∙ c.in_ok-params-in-Call.ensures.keyed)

pub copy_value-returns-in_ok-params-in-Call-clause-whole : goal.copy_value-returns-in_ok-params-in-Call-clause-whole
copy_value-returns-in_ok-params-in-Call-clause-whole t c = whole-call c.new-in-Call.result (subst (λ params. AllWhole params.items) (sym c.new-in-Call.ensures.params) c.in_ok-params-in-Call.ensures.whole)

pub copy_table-returns-clause-columns : goal.copy_table-returns-clause-columns
copy_table-returns-clause-columns t c = c.in_ok-columns.ensures ∙ c.as_slice.ensures.value

pub copy_table-returns-clause-keyed : goal.copy_table-returns-clause-keyed
copy_table-returns-clause-keyed t c =
    parts-copied c.args.table.now (roll-Table record { columns = c.in_ok-columns.columns; keys = c.in_ok-keys.keys; rows = c.in_ok-rows.rows }) c.as_slice-2.result.now
    (c.in_ok-columns.ensures ∙ c.as_slice.ensures.value) c.in_ok-keys.ensures c.as_slice-2.ensures.value c.in_ok-rows.ensures.keyed

pub copy_table-returns-clause-whole : goal.copy_table-returns-clause-whole
copy_table-returns-clause-whole t c =
    table-kept c.args.table.now (roll-Table record { columns = c.in_ok-columns.columns; keys = c.in_ok-keys.keys; rows = c.in_ok-rows.rows }) c.as_slice-2.result.now
    (c.in_ok-columns.ensures ∙ c.as_slice.ensures.value) c.in_ok-keys.ensures c.as_slice-2.ensures.value c.in_ok-rows.ensures.keyed c.in_ok-rows.ensures.whole c.requires.whole

pub copy_value-returns-in_ok-copies-in-Fields-clause-equal : goal.copy_value-returns-in_ok-copies-in-Fields-clause-equal
copy_value-returns-in_ok-copies-in-Fields-clause-equal t c = equal-keyed c.args.v.now (Fields c.in_ok-copies-in-Fields.copies) (copy_value-returns-in_ok-copies-in-Fields-clause-keyed t c)

pub copy_value-returns-in_ok-boxed-in-Table-clause-equal : goal.copy_value-returns-in_ok-boxed-in-Table-clause-equal
copy_value-returns-in_ok-boxed-in-Table-clause-equal t c = equal-keyed c.args.v.now (a_table c.in_ok-boxed-in-Table.boxed) (copy_value-returns-in_ok-boxed-in-Table-clause-keyed t c)

pub copy_value-returns-in_ok-params-in-Call-clause-equal : goal.copy_value-returns-in_ok-params-in-Call-clause-equal
copy_value-returns-in_ok-params-in-Call-clause-equal t c = equal-keyed c.args.v.now (Call c.new-in-Call.result) (copy_value-returns-in_ok-params-in-Call-clause-keyed t c)
