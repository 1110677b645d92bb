use Rattle.std.proofs.Common.{◌≡◌, drop, option_map, Some, sym, ap, ◌∙◌}
use Rattle.std.specs.List.{list_any}
use Rattle.std.proofs.lemmas.Option.{slice_get-map}
use Rattle.herm_rows.specs.Keys.{rows_of}
use Rattle.herm_rows.specs.Nodes.{place_at}
use Rattle.herm_model.specs.Tables.{key_of, same_key}
use Rattle.herm_values.specs.View.{value_view, key_view}
use Rattle.herm_values.proofs.KeyedRows.{is_keyed}
use Rattle.herm_values.proofs.RowKeys.{any-passed, any-told, nearer}
use Rattle.herm_values.proofs.Walked.{none-keys}
use Rattle.herm_values.proofs.keys.is_key_there.Goals as goal

pub keys-preserved : goal.keys-preserved
keys-preserved c = record {
  stands = c.after-next.ensures.stands;
  left =
      ap (λ n. list_any (is_keyed (key_of c.args.columns.now (value_view c.args.row.now))) (drop n (rows_of c.args.keys.now))) c.after-next.ensures.place
      ∙ any-passed (is_keyed (key_of c.args.columns.now (value_view c.args.row.now))) (rows_of c.args.keys.now) (place_at c.args.keys.now (Some c.in-Some.node)) c.row.result.now
      (slice_get-map (λ e. e.1) c.args.keys.now (place_at c.args.keys.now (Some c.in-Some.node)) ∙ ap (option_map (λ e. e.1)) c.row.ensures.place)
      (ap (λ start. list_any (is_keyed (key_of c.args.columns.now (value_view c.args.row.now))) (drop (place_at c.args.keys.now start) (rows_of c.args.keys.now))) (sym c.in-Some.is) ∙ c.keys.invariant.left)
      (ap (λ key. same_key (key_view key) (key_of c.args.columns.now (value_view c.args.row.now))) (sym c.as_slice.ensures.value) ∙ sym c.is_key.ensures ∙ c.if-is_key.false);
}

pub returns : goal.returns
returns c =
    ap (list_any (is_keyed (key_of c.args.columns.now (value_view c.args.row.now)))) (sym (none-keys c.args.keys.now c.keys.next c.in_default.is))
    ∙ c.keys.invariant.left

pub keys-smaller : goal.keys-smaller
keys-smaller c = nearer c.args.keys.now c.keys.next c.after-next.result c.in-Some.node c.row.result.now c.in-Some.is c.after-next.ensures.place c.row.ensures.place

pub returns-then-is_key : goal.returns-then-is_key
returns-then-is_key c =
    any-told (is_keyed (key_of c.args.columns.now (value_view c.args.row.now))) (rows_of c.args.keys.now) (place_at c.args.keys.now (Some c.in-Some.node)) c.row.result.now
    (slice_get-map (λ e. e.1) c.args.keys.now (place_at c.args.keys.now (Some c.in-Some.node)) ∙ ap (option_map (λ e. e.1)) c.row.ensures.place)
    (ap (λ start. list_any (is_keyed (key_of c.args.columns.now (value_view c.args.row.now))) (drop (place_at c.args.keys.now start) (rows_of c.args.keys.now))) (sym c.in-Some.is) ∙ c.keys.invariant.left)
    (ap (λ key. same_key (key_view key) (key_of c.args.columns.now (value_view c.args.row.now))) (sym c.as_slice.ensures.value) ∙ sym c.is_key.ensures ∙ c.if-is_key.true)
