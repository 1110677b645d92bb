use Rattle.std.proofs.Common.{◌≡◌, ◌≤◌, ◌<◌, List, Some, None, false, true, length, option_map, sym, ap, subst, ◌∙◌, arith}
use Rattle.herm_model.specs.Tables.{has_key, key_of}
use Rattle.herm_values.specs.View.{key_view, row_views, value_view, table_parts}
use Rattle.herm_frames.proofs.Inserted.{no_key, some_key, told_there, told_full, told_nothing}
use Rattle.herm_frames.proofs.insertions.refusal.Goals as goal

pub returns-in-Some : goal.returns-in-Some
returns-in-Some c = record {
  refusal =
      let columns = c.args.table.now.columns.items in
      let row = value_view c.args.row.now in
      let rows = table_parts c.args.table.now in
      let key : key_view c.in_ok-key.key.items ≡ key_of columns row = c.in_ok-key.ensures.key ∙ ap (λ ks. key_of ks row) c.columns.ensures.columns in
      told_there columns row rows
      (subst (λ k. has_key columns k rows ≡ true) key
      (some_key columns (key_view c.in_ok-key.key.items) rows (value_view c.in-Some._there.now) (sym (ap (option_map (λ v. value_view v.now)) c.in-Some.is) ∙ c.find.ensures.row)));
}

pub returns-then-len-ge-MOST_ROWS : goal.returns-then-len-ge-MOST_ROWS
returns-then-len-ge-MOST_ROWS c = record {
  refusal =
      let columns = c.args.table.now.columns.items in
      let row = value_view c.args.row.now in
      let rows = table_parts c.args.table.now in
      let key : key_view c.in_ok-key.key.items ≡ key_of columns row = c.in_ok-key.ensures.key ∙ ap (λ ks. key_of ks row) c.columns.ensures.columns in
      let full : 4096 ≤ length (row_views c.args.table.now) = omega (arith, c.len.ensures.number, c.if-len-ge-MOST_ROWS.true) in
      told_full c.args.table.now columns row
      (subst (λ k. has_key columns k rows ≡ false) key (no_key columns (key_view c.in_ok-key.key.items) rows (sym (ap (option_map (λ v. value_view v.now)) c.in_default.is) ∙ c.find.ensures.row)))
      full;
}

pub returns : goal.returns
returns c = record {
  refusal =
      let columns = c.args.table.now.columns.items in
      let row = value_view c.args.row.now in
      let rows = table_parts c.args.table.now in
      let key : key_view c.in_ok-key.key.items ≡ key_of columns row = c.in_ok-key.ensures.key ∙ ap (λ ks. key_of ks row) c.columns.ensures.columns in
      let room : length (row_views c.args.table.now) < 4096 = omega (arith, c.len.ensures.number, c.if-len-ge-MOST_ROWS.false) in
      told_nothing c.args.table.now columns row
      (subst (λ k. has_key columns k rows ≡ false) key (no_key columns (key_view c.in_ok-key.key.items) rows (sym (ap (option_map (λ v. value_view v.now)) c.in_default.is) ∙ c.find.ensures.row)))
      room;
}
