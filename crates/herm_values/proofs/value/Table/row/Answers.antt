use Rattle.std.proofs.Common.{◌≡◌, ◌∙◌, sym, ap, Some, None, option_map, get_or, arith}
use Rattle.herm_values.specs.View.{value_view}
use Rattle.herm_values.proofs.Wholes.{lent-whole, held-at}
use Rattle.herm_values.proofs.Looked.{lent_view}
use Rattle.herm_values.proofs.Walked.{row-first}
use Rattle.herm_values.proofs.VeryRows.{lent-itself}
use Rattle.herm_values.proofs.value.Table.row.Goals as goal

pub returns-in-Some-clause-row : goal.returns-in-Some-clause-row
returns-in-Some-clause-row c =
    row-first c.args.self.now c.args.node c.row.result.now c.row.ensures.place
    ∙ ap Some (sym (lent_view c.as_ref.result ∙ ap (option_map value_view) (c.as_ref.ensures.value ∙ c.in-Some.ensures.lookup.4 (omega arith) None ∙ ap (λ rows. get_or rows c.row.result.now.place None) c.deref.ensures.value)))

pub returns-in-None-clause-row : goal.returns-in-None-clause-row
returns-in-None-clause-row c =
    row-first c.args.self.now c.args.node c.row.result.now c.row.ensures.place
    ∙ ap Some (sym (ap (option_map value_view) (c.in-None.ensures.lookup.4 (omega arith) None ∙ ap (λ rows. get_or rows c.row.result.now.place None) c.deref.ensures.value)))

pub returns-in-Some-clause-whole : goal.returns-in-Some-clause-whole
returns-in-Some-clause-whole c whole = lent-whole c.as_ref.result c.in-Some.row.now c.as_ref.ensures.value (held-at c.args.self.now.rows.items c.deref.result.now c.row.result.now.place c.in-Some.row.now c.deref.ensures.value c.in-Some.ensures.lookup.3.0 (c.in-Some.ensures.lookup.4 (omega arith)) whole.whole)

pub returns-in-Some-clause-row_itself : goal.returns-in-Some-clause-row_itself
returns-in-Some-clause-row_itself c = lent-itself c.args.self.now.rows.items c.row.result.now.place c.as_ref.result c.in-Some.row.now c.as_ref.ensures.value (c.in-Some.ensures.lookup.4 (omega arith) None ∙ ap (λ rows. get_or rows c.row.result.now.place None) c.deref.ensures.value)
