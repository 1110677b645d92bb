use Rattle.herm_types.specs.View.{path_view}
use Rattle.herm_places.proofs.Forgotten.{taken_seen, cleared_seen}
use Rattle.herm_places.proofs.variables.Variables.take.Goals as goal

pub returns-clause-seen : goal.returns-clause-seen
returns-clause-seen c = taken_seen c.take_keyed.result (path_view c.args.path.now) c.args.self.now c.take_keyed.ensures.keyed

pub returns-clause-left_seen : goal.returns-clause-left_seen
returns-clause-left_seen c = cleared_seen (path_view c.args.path.now) c.args.self.now c.take_keyed.new.self c.take_keyed.ensures.left
