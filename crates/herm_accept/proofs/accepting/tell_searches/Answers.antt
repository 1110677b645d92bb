use Rattle.herm_accept.specs.Lacking.{IsTold}
use Rattle.herm_accept.proofs.Telling.{told-pushed}
use Rattle.herm_accept.proofs.accepting.tell_searches.Goals as goal

pub searches-preserved : goal.searches-preserved
searches-preserved c =
    told-pushed (IsTold c.args.types.now c.args.sites.now) c.searches.yielded c.searches.all.items c.push.new.self.items c.in-Some.search c.in_ok-paths.paths c.in_ok-new.field-0 c.searches.invariant
    (record { visits = c.in_ok-paths.ensures.visits; text = c.in_ok-paths.ensures.text })
    c.in_ok-new.ensures.ok c.in_ok-push.ensures.items
