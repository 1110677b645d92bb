use Rattle.std.proofs.Common.{◌≡◌, true, false, is_some, sym, ap, subst, ◌∙◌}
use Rattle.herm_model.specs.Values.{change_at, read_at}
use Rattle.herm_forms.specs.InsertForm.{add_row, change_rows, with_parts}
use Rattle.herm_places.specs.Held.{keyed_places, seen_places}
use Rattle.herm_places.specs.HeldPlaces.{HeldPlaces}
use Rattle.herm_types.specs.View.{path_view}
use Rattle.herm_values.specs.View.{value_view}
use Rattle.herm_frames.specs.HeldFrames.{HeldFrame}
use Rattle.herm_frames.specs.KeyedTables.{Allows, IsTableOf}
use Rattle.herm_frames.specs.Standing.{Stands}
use Rattle.herm_frames.proofs.Inserted.{added_there, added_not}
use Rattle.herm_frames.proofs.Stood.{with_variables}
use Rattle.herm_frames.proofs.frame.Frame.add_row.Goals as goal

pub returns-then-is_there-clause-added : goal.returns-then-is_there-clause-added
returns-then-is_there-clause-added c key s table allows h =
    let t = path_view c.args.table.now in
    let row = value_view c.args.row in
    let g = subst (λ f. Stands f s) (sym c.self.view_is) h in
    let here = subst (λ (vs : HeldPlaces). IsTableOf key (read_at t (keyed_places vs))) (sym (ap (λ (f : HeldFrame). f.variables) c.self.view_is)) table in
    let there = c.in_ok-is_there.ensures.there key here (subst (λ ps. Allows key row (read_at t ps)) g.variables allows) in
    let some : is_some (read_at t s.variables) ≡ true = ap (λ ps. is_some (read_at t ps)) g.variables ∙ sym there ∙ c.if-is_there.true in (
      change_rows t (add_row row) s,
      added_there t row s some,
      with_variables _ s c.insert_at.new.variables (change_at t (with_parts (add_row row)) s.variables) g (ap (change_at t (with_parts (add_row row))) g.variables ∙ sym (c.in_ok-is_there.ensures.inserted c.if-is_there.true)),
    )

pub returns-clause-added : goal.returns-clause-added
returns-clause-added c key s table allows h =
    let t = path_view c.args.table.now in
    let row = value_view c.args.row in
    let g = subst (λ f. Stands f s) (sym c.self.view_is) h in
    let here = subst (λ (vs : HeldPlaces). IsTableOf key (read_at t (keyed_places vs))) (sym (ap (λ (f : HeldFrame). f.variables) c.self.view_is)) table in
    let there = c.in_ok-is_there.ensures.there key here (subst (λ ps. Allows key row (read_at t ps)) g.variables allows) in
    added_not t row s (ap (λ ps. is_some (read_at t ps)) g.variables ∙ sym there ∙ c.if-is_there.false)

pub returns-then-is_there-clause-same_key : goal.returns-then-is_there-clause-same_key
returns-then-is_there-clause-same_key c key table =
    c.in_ok-is_there.ensures.same_key key (subst (λ (vs : HeldPlaces). IsTableOf key (read_at (path_view c.args.table.now) (keyed_places vs))) (sym (ap (λ (f : HeldFrame). f.variables) c.self.view_is)) table)

pub returns-clause-same_key : goal.returns-clause-same_key
returns-clause-same_key c key table =
    c.in_ok-is_there.ensures.same_key key (subst (λ (vs : HeldPlaces). IsTableOf key (read_at (path_view c.args.table.now) (keyed_places vs))) (sym (ap (λ (f : HeldFrame). f.variables) c.self.view_is)) table)
