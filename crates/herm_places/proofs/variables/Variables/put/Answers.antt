use Rattle.std.proofs.Common.{is_ok}
use Rattle.herm_types.specs.View.{path_view}
use Rattle.herm_places.proofs.Forgotten.{place_told, old_told, put_told}
use Rattle.herm_places.proofs.variables.Variables.put.Goals as goal

pub returns-clause-there : goal.returns-clause-there
returns-clause-there c = place_told (is_ok c.put_keyed.result) (path_view c.args.path.now) c.args.self.now c.put_keyed.ensures.there

pub returns-clause-old_seen : goal.returns-clause-old_seen
returns-clause-old_seen c = old_told c.put_keyed.result (path_view c.args.path.now) c.args.self.now c.put_keyed.ensures.old

pub returns-clause-put_seen : goal.returns-clause-put_seen
returns-clause-put_seen c = put_told c.put_keyed.result (path_view c.args.path.now) c.args.v c.args.self.now c.put_keyed.new.self c.put_keyed.ensures.put
