use Rattle.herm_places.proofs.Replaced.{here_put}
use Rattle.herm_places.proofs.replacing.replace_at_place.Goals as goal

pub returns-clause-put : goal.returns-clause-put
returns-clause-put c = here_put c.args.places.now.items c.set.new.places.items c.args.place c.args.v c.set.ensures.put
