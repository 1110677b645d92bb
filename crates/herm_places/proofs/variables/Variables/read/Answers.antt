use Rattle.herm_types.specs.View.{path_view}
use Rattle.herm_places.proofs.Forgotten.{read_seen}
use Rattle.herm_places.proofs.variables.Variables.read.Goals as goal

pub returns-clause-seen : goal.returns-clause-seen
returns-clause-seen c = read_seen c.read_keyed.result (path_view c.args.path.now) c.args.self.now c.read_keyed.ensures.keyed
