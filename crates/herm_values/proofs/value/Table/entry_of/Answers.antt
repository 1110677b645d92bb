use Rattle.std.proofs.Common.{◌≤◌, length, sym, subst, arith}
use Rattle.herm_rows.specs.Keys.{rows_of}
use Rattle.herm_values.proofs.Filled.{rows-filled}
use Rattle.herm_values.proofs.value.Table.entry_of.Goals as goal

pub free_place-requires-clause-used : goal.free_place-requires-clause-used
free_place-requires-clause-used c =
    subst (λ n. n ≤ c.len.result) (sym (rows-filled c.args.self.now.columns.items (rows_of c.args.self.now.keys) c.args.self.now.rows.items c.requires.whole.kept))
    (subst (λ n. length (rows_of c.args.self.now.keys) ≤ n) (sym c.len.ensures.number) (omega arith))
