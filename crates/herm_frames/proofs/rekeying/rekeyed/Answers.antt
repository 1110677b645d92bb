use Rattle.std.proofs.Common.{◌≡◌, ℕ, Some, Option, Vec, Global, option_map, slice_get, sym, ap, ◌∙◌}
use denote.Bor.{Bor}
use Rattle.herm_links.specs.declared.links.NodeNo.{NodeNo}
use Rattle.herm_model.specs.Values as model
use Rattle.herm_model.specs.Values.{joined}
use Rattle.herm_values.specs.Parts.{parts_from}
use Rattle.herm_values.specs.View.{value_view, table_parts, rows_from}
use Rattle.herm_values.specs.declared.value.Value.{Value}
use Rattle.herm_frames.proofs.Rekeyed.{row_made, rows_made}
use Rattle.herm_frames.proofs.rekeying.rekeyed.Goals as goal

pub rows-preserved : goal.rows-preserved
rows-preserved c =
    let t = c.args.table.now in
    let node = c.in-Some.node in
    let made = table_parts c.rows.made in
    let v = value_view c.in_ok-row.row in
    let before : joined made (parts_from (rows_from t (Some node))) ≡ table_parts t = ap (λ (next : Option NodeNo). joined made (parts_from (rows_from t next))) (sym c.in-Some.is) ∙ c.rows.invariant.rows in
    let at : slice_get (rows_from t (Some node)) 0 ≡ Some (Some v) =
    c.row.ensures.row ∙ ap (λ (o : Option (Bor Value)). Some (option_map (λ v. value_view v.now) o)) c.in-Some-row.is ∙ ap (λ (w : model.Value). Some (Some w)) (sym c.in_ok-row.ensures.equal) in
    record {
      stands = c.after-next.ensures.stands;
      columns = ap (λ (v : Vec ℕ Global). v.items) c.add.ensures.columns ∙ c.rows.invariant.columns;
      rows = row_made made (table_parts c.add.new.table) (table_parts t) t node c.after-next.result v before at c.after-next.ensures.rows (c.in_ok-add.ensures.rows c.if-not-branch.false);
      whole = c.add.ensures.whole;
    }

pub returns-clause-rows : goal.returns-clause-rows
returns-clause-rows c = rows_made (table_parts c.rows.made) (table_parts c.args.table.now) c.args.table.now c.rows.next c.rows.invariant.rows c.in_default.is
