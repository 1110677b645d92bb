use Rattle.std.proofs.Common.{◌≡◌, List, ℕ, Some, None, Option, option_map, ap, ◌∙◌}
use Rattle.herm_base.specs.declared.numbers.ExcNo.{ExcNo}
use Rattle.herm_model.specs.Values.{a_table, cell}
use Rattle.herm_types.specs.View.{path_view}
use Rattle.herm_values.specs.View.{value_view, table_parts}
use Rattle.herm_frames.specs.Refusals.{refusal}
use Rattle.herm_frames.proofs.Inserted.{no_table, row_allowed, row_refused}
use Rattle.herm_frames.proofs.frame.Frame.refused.Goals as goal

pub returns-in_default-table_at-clause-refused : goal.returns-in_default-table_at-clause-refused
returns-in_default-table_at-clause-refused c key lost s is h =
    no_table key lost (path_view c.args.row.now) (path_view c.args.table.now) s (value_view c.in-Some.v.now) (c.in-Some.ensures.stands s h) (c.in_default-table_at.ensures.none key s is h)

pub returns-in_default-2-clause-allowed : goal.returns-in_default-2-clause-allowed
returns-in_default-2-clause-allowed c key s is h =
    let row = value_view c.in-Some.v.now in
    let rows = table_parts c.in-Some-table_at.held.now in
    let held = c.in-Some-table_at.ensures.some key s is h in
    row_allowed key (path_view c.args.row.now) (path_view c.args.table.now) s row rows (option_map (λ (e : ExcNo). e.0) c.in_ok-e.field-0) (c.in-Some.ensures.stands s h) held.1
    (c.in_ok-e.ensures.refusal ∙ ap (λ (ks : List ℕ). refusal ks row rows) held.0) (ap (option_map (λ (e : ExcNo). e.0)) c.in_default-2.is)

pub returns-clause-refused : goal.returns-clause-refused
returns-clause-refused c key lost s is h =
    let row = value_view c.in-Some.v.now in
    let rows = table_parts c.in-Some-table_at.held.now in
    let held = c.in-Some-table_at.ensures.some key s is h in (
      s,
      row_refused key lost (path_view c.args.row.now) (path_view c.args.table.now) s row (cell tt a_table rows) (option_map (λ (e : ExcNo). e.0) c.in_ok-e.field-0) c.in-Some-2.e.0 (c.in-Some.ensures.stands s h) held.1
          (c.in_ok-e.ensures.refusal ∙ ap (λ (ks : List ℕ). refusal ks row rows) held.0) (ap (option_map (λ (e : ExcNo). e.0)) c.in-Some-2.is),
      h,
    )
