use Rattle.herm_types.specs.View.{path_view}
use Rattle.herm_places.proofs.Forgotten.{cell_seen}
use Rattle.herm_places.proofs.variables.Variables.at.Goals as goal

pub returns-clause-seen : goal.returns-clause-seen
returns-clause-seen c = cell_seen c.at_keyed.result (path_view c.args.path.now) c.args.self.now c.at_keyed.ensures.keyed
