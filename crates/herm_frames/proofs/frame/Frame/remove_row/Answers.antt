use Rattle.std.proofs.Common.{sym, refl, ap, subst, ◌∙◌}
use Rattle.herm_model.specs.Outcomes.{ok}
use Rattle.herm_model.specs.Tables.{without_part}
use Rattle.herm_model.specs.Values.{change_at, read_at}
use Rattle.herm_forms.specs.Acts.{key_at}
use Rattle.herm_forms.specs.InsertForm.{change_rows, with_parts}
use Rattle.herm_places.specs.Held.{keyed_places}
use Rattle.herm_places.specs.HeldPlaces.{HeldPlaces}
use Rattle.herm_types.specs.View.{path_view}
use Rattle.herm_values.specs.View.{key_view, value_view}
use Rattle.herm_frames.specs.Completed.{Completes, outcome_view}
use Rattle.herm_frames.specs.HeldFrames.{HeldFrame}
use Rattle.herm_frames.specs.KeyedTables.{IsTableOf}
use Rattle.herm_frames.specs.Standing.{Stands}
use Rattle.herm_frames.proofs.Inserted.{removed_not, removed_none, removed_some}
use Rattle.herm_frames.proofs.Stood.{with_variables}
use Rattle.herm_frames.proofs.frame.Frame.remove_row.Goals as goal

pub returns-in-NoTable : goal.returns-in-NoTable
returns-in-NoTable c = record {
  effect = λ code s is h.
      let r = path_view c.args.target.now in
      let t = path_view c.args.table.now in
      let key = key_at code.scope t in
      let k = key_view c.args.key.now.items in
      let g = subst (λ f. Stands f s) (sym c.self.view_is) h in
      let here = subst (λ (vs : HeldPlaces). IsTableOf key (read_at t (keyed_places vs))) (sym (ap (λ (f : HeldFrame). f.variables) c.self.view_is)) is in
      removed_not key k r t s (c.in-NoTable.ensures.removed key here ∙ ap (read_at t) (sym g.variables));
}

pub returns-in-NoRow : goal.returns-in-NoRow
returns-in-NoRow c = record {
  effect = λ code s is h.
      let r = path_view c.args.target.now in
      let t = path_view c.args.table.now in
      let key = key_at code.scope t in
      let k = key_view c.args.key.now.items in
      let g = subst (λ f. Stands f s) (sym c.self.view_is) h in
      let here = subst (λ (vs : HeldPlaces). IsTableOf key (read_at t (keyed_places vs))) (sym (ap (λ (f : HeldFrame). f.variables) c.self.view_is)) is in
      let taken = c.in-NoRow.ensures.removed key here in
      (s, removed_none key k r t s taken.0 (taken.1 ∙ ap (read_at t) (sym g.variables)) taken.2, with_variables _ s c.remove_at.new.variables s.variables g (g.variables ∙ sym taken.3));
}

pub returns-in_ok-r-in-Row : goal.returns-in_ok-r-in-Row
returns-in_ok-r-in-Row c = record {
  effect = λ code s is h.
      let r = path_view c.args.target.now in
      let t = path_view c.args.table.now in
      let key = key_at code.scope t in
      let k = key_view c.args.key.now.items in
      let g = subst (λ f. Stands f s) (sym c.self.view_is) h in
      let here = subst (λ (vs : HeldPlaces). IsTableOf key (read_at t (keyed_places vs))) (sym (ap (λ (f : HeldFrame). f.variables) c.self.view_is)) is in
      let taken = c.in-Row.ensures.removed key here in
      let less = with_parts (without_part taken.2) in
      let left = with_variables _ s c.remove_at.new.variables (change_at t less s.variables) g (ap (change_at t less) g.variables ∙ sym taken.5) in
      subst (λ e. Completes (outcome_view c.in_ok-r-in-Row.r) c.put_at_end.new.self e) (sym (removed_some key k r t s taken.0 taken.2 (value_view c.in-Row.row) (taken.1 ∙ ap (read_at t) (sym g.variables)) taken.3 taken.4))
      (c.in_ok-r-in-Row.ensures.putting (change_rows t (without_part taken.2) s) ok left refl);
}
