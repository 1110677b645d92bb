use Rattle.std.proofs.Common.{◌∙◌, sym, ap, None, option_map, get_or, arith}
use Rattle.herm_values.specs.View.{value_view}
use Rattle.herm_values.proofs.Wholes.{lent-whole, held-at}
use Rattle.herm_values.proofs.Looked.{lent_view, at-place}
use Rattle.herm_values.proofs.VeryRows.{lent-itself}
use Rattle.herm_values.proofs.value.Table.row_at.Goals as goal

pub returns-in-Some-clause-row : goal.returns-in-Some-clause-row
returns-in-Some-clause-row c =
    lent_view c.as_ref.result
    ∙ ap (option_map value_view) (c.as_ref.ensures.value ∙ c.in-Some.ensures.lookup.4 (omega arith) None ∙ ap (λ rows. get_or rows c.at.result.now.place None) c.deref.ensures.value)
    ∙ sym (at-place c.args.self.now c.args.n c.at.result.now c.at.ensures.row)

pub returns-in-None-clause-row : goal.returns-in-None-clause-row
returns-in-None-clause-row c =
    ap (option_map value_view) (c.in-None.ensures.lookup.4 (omega arith) None ∙ ap (λ rows. get_or rows c.at.result.now.place None) c.deref.ensures.value)
    ∙ sym (at-place c.args.self.now c.args.n c.at.result.now c.at.ensures.row)

pub returns-in-Some-clause-whole : goal.returns-in-Some-clause-whole
returns-in-Some-clause-whole c whole = lent-whole c.as_ref.result c.in-Some.row.now c.as_ref.ensures.value (held-at c.args.self.now.rows.items c.deref.result.now c.at.result.now.place c.in-Some.row.now c.deref.ensures.value c.in-Some.ensures.lookup.3.0 (c.in-Some.ensures.lookup.4 (omega arith)) whole.whole)

pub returns-in-Some-clause-row_itself : goal.returns-in-Some-clause-row_itself
returns-in-Some-clause-row_itself c = lent-itself c.args.self.now.rows.items c.at.result.now.place c.as_ref.result c.in-Some.row.now c.as_ref.ensures.value (c.in-Some.ensures.lookup.4 (omega arith) None ∙ ap (λ rows. get_or rows c.at.result.now.place None) c.deref.ensures.value)
