use Rattle.std.proofs.Common.{◌≡◌, Some, None, false, List, ℕ, option_map, sym, ap, subst, ◌∙◌}
use Rattle.std.specs.Prelude.{⊤}
use Rattle.herm_model.specs.Values as model
use Rattle.herm_model.specs.Values.{Parts}
use Rattle.herm_places.specs.Held.{seen_places}
use Rattle.herm_types.specs.View.{path_view}
use Rattle.herm_values.specs.Keys.{row_with, without_key}
use Rattle.herm_values.specs.View.{key_view, leaf, table_parts, value_view}
use Rattle.herm_values.specs.declared.value.Table.{Table}
use Rattle.herm_frames.specs.KeyedTables.{IsTableOf}
use Rattle.herm_frames.proofs.Inserted.{row_gone, no_row_gone}
use Rattle.herm_frames.proofs.insertions.remove_at.Goals as goal

pub returns-in-Some-row-clause-removed : goal.returns-in-Some-row-clause-removed
returns-in-Some-row-clause-removed c columns is =
    let k = key_view c.args.key.now.items in
    let rows = table_parts c.in-Some.held.value in
    let same = (subst (IsTableOf columns) c.in-Some.ensures.keyed is).0 in
    let row : Some (value_view c.in-Some-row.v) ≡ row_with columns k rows =
    sym (ap (option_map value_view) c.in-Some-row.is) ∙ c.remove-row.ensures.row ∙ ap (λ (t : Table). row_with t.columns.items k (table_parts t)) c.deref_mut.ensures.value ∙ ap (λ (ks : List ℕ). row_with ks k rows) same in
    let less : table_parts c.remove-row.new.self ≡ without_key columns k rows =
    c.remove-row.ensures.others ∙ ap (λ (t : Table). without_key t.columns.items k (table_parts t)) c.deref_mut.ensures.value ∙ ap (λ (ks : List ℕ). without_key ks k rows) same in
    let gone =
    row_gone (path_view c.args.table.now) (leaf (model.a_scalar (model.a_boolean false))) (value_view c.in-Some-row.v) columns k (seen_places c.args.variables.now) (seen_places c.take_table.new.variables) (seen_places c.put_table.new.variables) rows
    (table_parts c.remove-row.new.self) c.in-Some.ensures.seen c.take_table.ensures.left c.put_table.ensures.seen less row in
    (rows, sym c.in-Some.ensures.seen, gone.0, gone.1, gone.2, gone.3)

pub returns-in-None-clause-removed : goal.returns-in-None-clause-removed
returns-in-None-clause-removed c columns is =
    let k = key_view c.args.key.now.items in
    let rows = table_parts c.in-Some.held.value in
    let same = (subst (IsTableOf columns) c.in-Some.ensures.keyed is).0 in
    let row : None ≡ row_with columns k rows =
    sym (ap (option_map value_view) c.in-None.is) ∙ c.remove-row.ensures.row ∙ ap (λ (t : Table). row_with t.columns.items k (table_parts t)) c.deref_mut.ensures.value ∙ ap (λ (ks : List ℕ). row_with ks k rows) same in
    let less : table_parts c.remove-row.new.self ≡ without_key columns k rows =
    c.remove-row.ensures.others ∙ ap (λ (t : Table). without_key t.columns.items k (table_parts t)) c.deref_mut.ensures.value ∙ ap (λ (ks : List ℕ). without_key ks k rows) same in (
      rows,
      sym c.in-Some.ensures.seen,
      sym row,
      no_row_gone (path_view c.args.table.now) (leaf (model.a_scalar (model.a_boolean false))) columns k (seen_places c.args.variables.now) (seen_places c.take_table.new.variables) (seen_places c.put_table.new.variables) rows
          (table_parts c.remove-row.new.self) c.in-Some.ensures.seen c.take_table.ensures.left c.put_table.ensures.seen less row,
    )
