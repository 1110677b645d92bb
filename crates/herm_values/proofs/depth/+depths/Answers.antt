use Rattle.std.proofs.Common.{rules, sym, subst}
use Rattle.herm_values.specs.Whole.{AllWhole, IsWholeTable}
use Rattle.herm_values.specs.declared.value.Value.{the_lemmas}
use Rattle.herm_values.proofs.Wholes.{fields-whole, call-whole, table-whole}
use Rattle.herm_values.proofs.depth.+depths.Goals as goal

pub depth_of-greatest_depth-requires : goal.depth_of-greatest_depth-requires
depth_of-greatest_depth-requires t c = (search (rules, the_lemmas), subst AllWhole (sym c.as_slice.ensures.value) (fields-whole c.args.v.now c.in-Fields.fields c.in-Fields.is c.requires.whole))

pub depth_of-greatest_row_depth-requires : goal.depth_of-greatest_row_depth-requires
depth_of-greatest_row_depth-requires t c = (search (rules, the_lemmas), subst IsWholeTable (sym c.deref-in-Table.ensures) (table-whole c.args.v.now c.in-Table.table c.in-Table.is c.requires.whole))

pub depth_of-greatest_depth-requires-in-Call : goal.depth_of-greatest_depth-requires-in-Call
depth_of-greatest_depth-requires-in-Call t c = (search (rules, the_lemmas), subst AllWhole (sym c.params.ensures.params) (call-whole c.args.v.now c.in-Call.call c.in-Call.is c.requires.whole))
