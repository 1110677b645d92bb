use Rattle.herm_code.proofs.Sampled.{empty-well_named}
use Rattle.herm_machine_tests.proofs.by_hand.table.Goals as goal

pub new-requires-clause-well_named : goal.new-requires-clause-well_named
new-requires-clause-well_named c = empty-well_named c.new-defined.result.items c.new-exceptions.result.items c.new-defined.ensures.items c.new-exceptions.ensures.items
