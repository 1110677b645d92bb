use Rattle.herm_types.specs.View.{path_view}
use Rattle.herm_places.proofs.Forgotten.{exchanged_seen, changed_seen}
use Rattle.herm_places.proofs.variables.Variables.exchange.Goals as goal

pub returns-clause-old_seen : goal.returns-clause-old_seen
returns-clause-old_seen c = exchanged_seen c.exchange_keyed.result (path_view c.args.path.now) c.args.self.now c.exchange_keyed.ensures.old

pub returns-clause-new_seen : goal.returns-clause-new_seen
returns-clause-new_seen c = changed_seen (path_view c.args.path.now) c.args.v c.args.self.now c.exchange_keyed.new.self c.exchange_keyed.ensures.new
