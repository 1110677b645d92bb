use Rattle.herm_frames.proofs.Predefined.{empty-well_named, empty-sized}
use Rattle.herm_answers_tests.proofs.answers.predefined.Goals as goal

pub new-requires-clause-well_named : goal.new-requires-clause-well_named
new-requires-clause-well_named c = empty-well_named c.new-defined.result.items c.new-exceptions.result.items c.new-defined.ensures.items c.new-exceptions.ensures.items

pub new-requires-clause-sized : goal.new-requires-clause-sized
new-requires-clause-sized c = empty-sized c.new-defined.result.items c.new-exceptions.result.items c.new-defined.ensures.items c.new-exceptions.ensures.items
