use Rattle.std.proofs.Common.{◌∙◌, sym, ap, None, get_or, option_map}
use Rattle.herm_rows.specs.Keys.{rows_of}
use Rattle.herm_values.specs.View.{value_view, views_of}
use Rattle.herm_values.proofs.Tables.{none-found, key-found}
use Rattle.herm_values.proofs.VeryRows.{lent-among}
use Rattle.herm_values.proofs.value.Table.find.Goals as goal

pub returns-in_err-found-clause-row : goal.returns-in_err-found-clause-row
returns-in_err-found-clause-row c =
    ap (option_map (λ v. value_view v.now)) c.from_residual.ensures
    ∙ sym (none-found c.args.self.now.columns.items (views_of c.args.self.now.rows.items) (rows_of c.args.self.now.keys) c.args.key.now.items (sym c.in_err-found.ensures.row) c.requires.whole.kept)

pub returns-clause-row : goal.returns-clause-row
returns-clause-row c =
    c.held_at.ensures.held
    ∙ ap (λ rows. get_or (views_of rows) c.in_ok-found.found.now.place None) c.as_slice.ensures.value
    ∙ key-found c.args.self.now.columns.items (views_of c.args.self.now.rows.items) (rows_of c.args.self.now.keys) c.args.key.now.items c.in_ok-found.found.now (sym c.in_ok-found.ensures.row) c.requires.whole.kept

pub returns-clause-row_itself : goal.returns-clause-row_itself
returns-clause-row_itself c = lent-among c.args.self.now.rows.items c.in_ok-found.found.now.place c.held_at.result (c.held_at.ensures.itself ∙ ap (λ rows. get_or rows c.in_ok-found.found.now.place None) c.as_slice.ensures.value)
