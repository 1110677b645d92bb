use Rattle.herm_defs.proofs.Gathering.{names-few, exception-names-few}
use Rattle.herm_defs.proofs.context.Context.of.Goals as goal

pub outlined-requires-clause-types : goal.outlined-requires-clause-types
outlined-requires-clause-types c = names-few c.args.items.now c.requires.items

pub outlined-requires-clause-exceptions : goal.outlined-requires-clause-exceptions
outlined-requires-clause-exceptions c = exception-names-few c.args.items.now c.requires.items
