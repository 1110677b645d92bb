use Rattle.herm_rows.specs.Keys.{rows_of}
use Rattle.herm_values.specs.View.{views_of}
use Rattle.herm_values.proofs.Distinct.{named-distinct}
use Rattle.herm_values.proofs.value.Table.len.Goals as goal

pub returns-clause-different : goal.returns-clause-different
returns-clause-different c whole = named-distinct c.args.self.now.columns.items (views_of c.args.self.now.rows.items) (rows_of c.args.self.now.keys) whole.kept.found c.len.ensures.keys
