use Rattle.std.proofs.Common.{sym, ap, subst, ◌∙◌}
use Rattle.herm_model.specs.CellNames.{count_in}
use Rattle.herm_values.specs.Parts.{parts_from}
use Rattle.herm_values.specs.Whole.{AllWhole, IsWholeTable}
use Rattle.herm_values.proofs.Wholes.{fields-whole, call-whole, table-whole}
use Rattle.herm_frames.specs.Counts.{cut}
use Rattle.herm_frames.proofs.CopiedRows.{fields_parts, table_rows, call_parts}
use Rattle.herm_frames.proofs.rows.copies_of.Goals as goal

pub copies_of_places-requires : goal.copies_of_places-requires
copies_of_places-requires c = record { whole = subst AllWhole (sym c.as_slice.ensures.value) (fields-whole c.args.v.now c.in-Fields.fields c.in-Fields.is c.requires.whole) }

pub copies_of_rows-requires : goal.copies_of_rows-requires
copies_of_rows-requires c = record { whole = subst IsWholeTable (sym c.deref-in-Table.ensures) (table-whole c.args.v.now c.in-Table.table c.in-Table.is c.requires.whole) }

pub copies_of_places-requires-in-Call : goal.copies_of_places-requires-in-Call
copies_of_places-requires-in-Call c = record { whole = subst AllWhole (sym c.params.ensures.params) (call-whole c.args.v.now c.in-Call.call c.in-Call.is c.requires.whole) }
