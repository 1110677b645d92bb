use Rattle.std.proofs.Common.{option_map}
use Rattle.herm_defs.proofs.Stepping.{no-fields, some-fields}
use Rattle.herm_defs.proofs.fields.walk_fields.Goals as goal

pub returns-then-is_empty : goal.returns-then-is_empty
returns-then-is_empty c = no-fields c.args.table.now c.args.from.0 c.args.path.now c.if-is_empty.ensures

pub returns : goal.returns
returns c = some-fields c.args.table.now c.args.from.0 c.args.path.now _ c.if-is_empty.ensures c.in_ok-end.ensures
