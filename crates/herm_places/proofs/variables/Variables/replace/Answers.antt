use Rattle.herm_types.specs.View.{path_view}
use Rattle.herm_places.proofs.Forgotten.{put_told, kept_told}
use Rattle.herm_places.proofs.Replaced.{there_told}
use Rattle.herm_places.proofs.variables.Variables.replace.Goals as goal

pub returns-clause-there : goal.returns-clause-there
returns-clause-there c = there_told c.replace_keyed.result (path_view c.args.path.now) c.args.self.now c.replace_keyed.ensures.done

pub returns-clause-put_seen : goal.returns-clause-put_seen
returns-clause-put_seen c = put_told c.replace_keyed.result (path_view c.args.path.now) c.args.v c.args.self.now c.replace_keyed.new.self c.replace_keyed.ensures.put

pub returns-clause-kept_seen : goal.returns-clause-kept_seen
returns-clause-kept_seen c = kept_told c.replace_keyed.result c.args.self.now c.replace_keyed.new.self c.replace_keyed.ensures.kept
