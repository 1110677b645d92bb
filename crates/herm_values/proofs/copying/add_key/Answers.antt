use Rattle.herm_rows.specs.Keys.{rows_of}
use Rattle.herm_values.proofs.NewKeys.{no-duplicate, not-full}
use Rattle.herm_values.proofs.copying.add_key.Goals as goal

pub unreachable-requires : goal.unreachable-requires
unreachable-requires c = no-duplicate (rows_of c.args.keys.now) c.args.row.key.items c.in-Err-Duplicate.field-0 c.in-Err-Duplicate.field-0-0 c.in-Err-Duplicate.field-0-is c.in-Err-Duplicate.ensures.duplicate c.requires.new

pub unreachable-requires-in-Err-Full : goal.unreachable-requires-in-Err-Full
unreachable-requires-in-Err-Full c = not-full (rows_of c.args.keys.now) c.args.row.key.items c.in-Err-Full.field-0 c.in-Err-Full.field-0-0 c.in-Err-Full.field-0-is c.in-Err-Full.ensures.full c.requires.few
