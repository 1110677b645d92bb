use Rattle.std.proofs.Common.{◌≤◌, ◌<◌, length, nat_le, arith}
use Rattle.herm_rows.specs.Keys.{rows_of, most_rows}
use Rattle.herm_model.specs.Values.{size}
use Rattle.herm_values.specs.View.{value_view, views_of, table_parts}
use Rattle.herm_values.proofs.RowKeys.{told-there, there-not-full, told-none, none-full, none-room}
use Rattle.herm_values.proofs.value.Table.refuse.Goals as goal

pub returns-then-is_key_there-clause-duplicate : goal.returns-then-is_key_there-clause-duplicate
returns-then-is_key_there-clause-duplicate c = told-there c.args.self.now.columns.items c.as_slice.result.now (views_of c.args.self.now.rows.items) (rows_of c.args.self.now.keys) (value_view c.args.row) c.is_key_there.result c.requires.whole.kept c.as_slice.ensures.value c.is_key_there.ensures c.if-is_key_there.true

pub returns-then-is_key_there-clause-full : goal.returns-then-is_key_there-clause-full
returns-then-is_key_there-clause-full c = there-not-full c.args.self.now.columns.items c.as_slice.result.now (views_of c.args.self.now.rows.items) (rows_of c.args.self.now.keys) (value_view c.args.row) c.is_key_there.result c.requires.whole.kept c.as_slice.ensures.value c.is_key_there.ensures (nat_le most_rows (size (table_parts c.args.self.now))) c.if-is_key_there.true

pub returns-then-len-ge-MOST_ROWS-clause-duplicate : goal.returns-then-len-ge-MOST_ROWS-clause-duplicate
returns-then-len-ge-MOST_ROWS-clause-duplicate c = told-none c.args.self.now.columns.items c.as_slice.result.now (views_of c.args.self.now.rows.items) (rows_of c.args.self.now.keys) (value_view c.args.row) c.is_key_there.result c.requires.whole.kept c.as_slice.ensures.value c.is_key_there.ensures c.if-is_key_there.false

pub returns-clause-duplicate : goal.returns-clause-duplicate
returns-clause-duplicate c = told-none c.args.self.now.columns.items c.as_slice.result.now (views_of c.args.self.now.rows.items) (rows_of c.args.self.now.keys) (value_view c.args.row) c.is_key_there.result c.requires.whole.kept c.as_slice.ensures.value c.is_key_there.ensures c.if-is_key_there.false

pub returns-then-len-ge-MOST_ROWS-clause-full : goal.returns-then-len-ge-MOST_ROWS-clause-full
returns-then-len-ge-MOST_ROWS-clause-full c =
    let many : most_rows ≤ length (rows_of c.args.self.now.keys) = omega (arith, c.len.ensures.number, c.if-len-ge-MOST_ROWS.true) in
    none-full c.args.self.now.columns.items c.as_slice.result.now (views_of c.args.self.now.rows.items) (rows_of c.args.self.now.keys) (value_view c.args.row) c.is_key_there.result c.requires.whole.kept c.as_slice.ensures.value c.is_key_there.ensures c.if-is_key_there.false many

pub returns-clause-full : goal.returns-clause-full
returns-clause-full c =
    let few : length (rows_of c.args.self.now.keys) < most_rows = omega (arith, c.len.ensures.number, c.if-len-ge-MOST_ROWS.false) in
    none-room c.args.self.now.columns.items c.as_slice.result.now (views_of c.args.self.now.rows.items) (rows_of c.args.self.now.keys) (value_view c.args.row) c.is_key_there.result c.requires.whole.kept c.as_slice.ensures.value c.is_key_there.ensures c.if-is_key_there.false few
