use Rattle.std.proofs.Common.{◌∙◌, sym, ap, subst, option_map, IfSome}
use Rattle.herm_rows.specs.Keys.{rows_of}
use Rattle.herm_values.specs.View.{value_view, views_of, row_views}
use Rattle.herm_values.proofs.Looked.{part-at}
use Rattle.herm_values.proofs.Tables.{row-of-place, some-lent}
use Rattle.herm_values.proofs.VeryRows.{IsAmong}
use Rattle.herm_values.proofs.value.Table.at.Goals as goal

pub unwrap-requires : goal.unwrap-requires
unwrap-requires c =
    let h = row-of-place c.args.self.now.columns.items (views_of c.args.self.now.rows.items) (rows_of c.args.self.now.keys) c.args.n c.requires.whole.kept.found c.requires.place in
    some-lent c.row_at.result h.0 (c.row_at.ensures.row ∙ h.1)

pub returns-clause-row : goal.returns-clause-row
returns-clause-row c = part-at c.args.n (row_views c.args.self.now) ∙ sym c.row_at.ensures.row ∙ ap (option_map (λ v. value_view v.now)) c.unwrap.ensures

pub returns-clause-row_itself : goal.returns-clause-row_itself
returns-clause-row_itself c = subst (λ o. IfSome o (λ v. IsAmong c.args.self.now.rows.items v.now)) c.unwrap.ensures c.row_at.ensures.row_itself
