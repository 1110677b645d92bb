use Rattle.herm_accept.specs.Lacking.{IsLost}
use Rattle.herm_accept.proofs.Telling.{told-pushed}
use Rattle.herm_accept.proofs.accepting.tell_facts.Goals as goal

pub facts-preserved : goal.facts-preserved
facts-preserved c =
    told-pushed (IsLost c.args.types.now c.args.p.now) c.facts.yielded c.facts.all.items c.push.new.self.items c.in-Some.fact c.in_ok-lost.lost c.in_ok-new.field-0 c.facts.invariant
    (record { fact = c.in_ok-lost.ensures.fact; head = c.in_ok-lost.ensures.head })
    c.in_ok-new.ensures.ok c.in_ok-push.ensures.items
