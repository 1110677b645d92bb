use Rattle.std.proofs.Common.{◌≡◌, ◌+◌, ℕ, Some, None, option_map, refl, sym, ap, subst, ◌∙◌}
use Rattle.std.specs.Prelude.{⊤}
use Rattle.herm_journal.specs.Renaming.{forget_name}
use Rattle.herm_model.specs.CellNames.{count}
use Rattle.herm_model.specs.Outcomes.{ok}
use Rattle.herm_model.specs.Values.{Value, a_table, cell, read_at}
use Rattle.herm_forms.specs.Acts.{key_at}
use Rattle.herm_forms.specs.Frames.{Frame, Completion, copying, putting}
use Rattle.herm_types.specs.View.{path_view}
use Rattle.herm_values.specs.Keyed.{keyed_view}
use Rattle.herm_values.specs.Keys.{row_with}
use Rattle.herm_values.specs.View.{key_view, value_view, table_parts}
use Rattle.herm_frames.specs.Completed.{Completes, outcome_view}
use Rattle.herm_frames.specs.KeyedTables.{IsTableOf}
use Rattle.herm_frames.proofs.Moved.{copied_own}
use Rattle.herm_frames.proofs.TablesSeen.{of_key, found_none, found_some}
use Rattle.herm_frames.proofs.frame.Frame.get_row.Goals as goal

pub returns-in_default-find : goal.returns-in_default-find
returns-in_default-find c = record {
  effect = λ code s is h.
      let t = path_view c.args.table.now in
      let key = key_at code.scope t in
      let k = key_view c.args.key.now.items in
      let rows = table_parts c.in-Some-table_in.held.now in
      let next : ℕ → Value → Completion ⊤ = λ i row. copying forget_name row (putting (path_view c.args.target.now) ok) s in
      let columns = of_key key _ (keyed_view c.in-Some.v.now) _ c.in-Some-table_in.ensures.keyed (subst (λ o. IsTableOf key o) (sym c.in-Some.ensures.keyed) is) in
      let at : Some (cell tt a_table rows) ≡ read_at t s.variables = ap Some (sym c.in-Some-table_in.ensures.seen) ∙ c.in-Some.ensures.stands s h in
      (s, found_none key k t next s rows at (ap (λ ks. row_with ks k rows) (sym columns) ∙ sym c.find.ensures.row ∙ ap (option_map (λ v. value_view v.now)) c.in_default-find.is), h);
}

pub returns : goal.returns
returns c = record {
  effect = λ code s is h.
      let t = path_view c.args.table.now in
      let key = key_at code.scope t in
      let k = key_view c.args.key.now.items in
      let rows = table_parts c.in-Some-table_in.held.now in
      let r = path_view c.args.target.now in
      let next : ℕ → Value → Completion ⊤ = λ i row. copying forget_name row (putting r ok) s in
      let columns = of_key key _ (keyed_view c.in-Some.v.now) _ c.in-Some-table_in.ensures.keyed (subst (λ o. IsTableOf key o) (sym c.in-Some.ensures.keyed) is) in
      let at : Some (cell tt a_table rows) ≡ read_at t s.variables = ap Some (sym c.in-Some-table_in.ensures.seen) ∙ c.in-Some.ensures.stands s h in
      let row = value_view c.in-Some-find.row.now in
      let found = found_some key k t next s rows at row (ap (λ ks. row_with ks k rows) (sym columns) ∙ sym c.find.ensures.row ∙ ap (option_map (λ v. value_view v.now)) c.in-Some-find.is) in
      let put : Completes (outcome_view c.in_ok-r.r) c.put_at_end.new.self (putting r ok (value_view c.in_ok-copy.copy) (record s { serial = s.serial + count (value_view c.in_ok-copy.copy) })) =
      c.in_ok-r.ensures.putting (record s { serial = s.serial + count (value_view c.in_ok-copy.copy) }) ok (c.make_cells.ensures.stands s h) refl in
      subst (λ e. Completes (outcome_view c.in_ok-r.r) c.put_at_end.new.self e)
      (ap (λ v. putting r ok v (record s { serial = s.serial + count v })) c.in_ok-copy.ensures.equal
      ∙ ap (λ v. putting r ok v (record s { serial = s.serial + count row })) (sym (copied_own s.serial row))
      ∙ sym found.2)
      put;
}
