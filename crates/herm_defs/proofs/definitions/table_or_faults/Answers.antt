use Rattle.herm_defs.proofs.Gathering.{names-few, exception-names-few}
use Rattle.herm_defs.proofs.definitions.table_or_faults.Goals as goal

pub table_of-requires-clause-few_types : goal.table_of-requires-clause-few_types
table_of-requires-clause-few_types c = names-few c.args.items.now c.requires.items

pub table_of-requires-clause-few_exceptions : goal.table_of-requires-clause-few_exceptions
table_of-requires-clause-few_exceptions c = exception-names-few c.args.items.now c.requires.items
