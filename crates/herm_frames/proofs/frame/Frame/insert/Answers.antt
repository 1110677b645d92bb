use Rattle.std.proofs.Common.{◌≡◌, Some, option_map, refl, sym, ap, subst, ◌∙◌}
use Rattle.herm_model.specs.Finalising.{clear_all}
use Rattle.herm_model.specs.Values.{cell_at, clear_at, read_at}
use Rattle.herm_forms.specs.Acts.{key_at}
use Rattle.herm_forms.specs.Excess.{excess_over_full}
use Rattle.herm_forms.specs.Frames.{cleared, drop}
use Rattle.herm_places.specs.Held.{keyed_places}
use Rattle.herm_types.specs.View.{path_view}
use Rattle.herm_values.specs.View.{value_view}
use Rattle.herm_frames.specs.Completed.{Completes, outcome_view}
use Rattle.herm_frames.specs.KeyedTables.{adding, Allows}
use Rattle.herm_frames.proofs.Ended.{all_variables}
use Rattle.herm_frames.proofs.Inserted.{if_none, row_moves, still_allowed, still_table}
use Rattle.herm_frames.proofs.Removed.{moved-none, moved-some}
use Rattle.herm_frames.proofs.frame.Frame.insert.Goals as goal

pub returns-in_default-2-clause-effect : goal.returns-in_default-2-clause-effect
returns-in_default-2-clause-effect c code stack s of table fields h =
    let r = path_view c.args.row.now in
    let t = path_view c.args.table.now in
    let key = key_at code.scope t in
    let lost = excess_over_full code.scope r s in
    let allowed = if_none c.in_ok-outcome.field-0 c.in_default.is c.in_ok-outcome.ensures.allowed key s table h in
    (refl, row_moves key lost r t s allowed ∙ moved-none lost r (adding t) s c.in_ok-v.field-0 (c.in_ok-v.ensures.taken code s of h) c.in_default-2.is)

pub returns-clause-effect : goal.returns-clause-effect
returns-clause-effect c code stack s of table fields h =
    let r = path_view c.args.row.now in
    let t = path_view c.args.table.now in
    let key = key_at code.scope t in
    let lost = excess_over_full code.scope r s in
    let row = value_view c.in-Some-2.v in
    let allowed = if_none c.in_ok-outcome.field-0 c.in_default.is c.in_ok-outcome.ensures.allowed key s table h in
    let taken = c.in_ok-v.ensures.taken code s of h in
    let at : cell_at r (clear_all lost s.variables) ≡ Some row = ap (cell_at r) (sym (all_variables lost s)) ∙ sym taken ∙ ap (option_map value_view) c.in-Some-2.is in
    let here = still_table key lost r c.args.table.now.var.0 c.args.table.now.parts.items (keyed_places c.args.self.now.variables) (keyed_places c.take_full.new.self.variables) table (c.in_ok-v.ensures.left code s of h) in
    let allows =
    subst (λ ps. Allows key row (read_at t (clear_at r ps))) (sym (all_variables lost s))
    (still_allowed code.scope key c.args.row.now.var.0 c.args.row.now.parts.items c.args.table.now.var.0 c.args.table.now.parts.items s allowed fields row at) in (
      refl,
      subst (λ e. Completes (outcome_view c.in_ok-r.r) c.add_row.new.self e) (sym (row_moves key lost r t s allowed ∙ moved-some lost r (adding t) s c.in_ok-v.field-0 taken c.in-Some-2.v c.in-Some-2.is))
          (c.in_ok-r.ensures.added key (cleared r (drop lost s)) here allows (c.in_ok-v.ensures.stands code s of h)),
    )

pub returns-in_default-2-clause-same_key : goal.returns-in_default-2-clause-same_key
returns-in_default-2-clause-same_key c code key s of table h = still_table key (excess_over_full code.scope (path_view c.args.row.now) s) (path_view c.args.row.now) c.args.table.now.var.0 c.args.table.now.parts.items (keyed_places c.args.self.now.variables) (keyed_places c.take_full.new.self.variables) table (c.in_ok-v.ensures.left code s of h)

pub returns-clause-same_key : goal.returns-clause-same_key
returns-clause-same_key c code key s of table h = c.in_ok-r.ensures.same_key key (still_table key (excess_over_full code.scope (path_view c.args.row.now) s) (path_view c.args.row.now) c.args.table.now.var.0 c.args.table.now.parts.items (keyed_places c.args.self.now.variables) (keyed_places c.take_full.new.self.variables) table (c.in_ok-v.ensures.left code s of h))
