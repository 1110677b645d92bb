use Rattle.std.specs.Prelude.{None, refl}
use Rattle.herm_links.proofs.Relinked.{added}
use Rattle.herm_links.proofs.links.Links.new_list.Goals as goal

pub invariant_of-self-2 : goal.invariant_of-self-2
invariant_of-self-2 g c =
    rw c.in_ok-push.ensures.items
    (added c.self.inside.nodes c.self.inside.nodes c.self.inside.lists.items c.self.inside.spare c.self.invariant c.args.self.now c.self.view_is (record { first = None; last = None }) refl refl refl refl c.self.invariant.room).0

pub returns-clause-added : goal.returns-clause-added
returns-clause-added g c =
    rw c.in_ok-push.ensures.items
    (added c.self.inside.nodes c.self.inside.nodes c.self.inside.lists.items c.self.inside.spare c.self.invariant c.args.self.now c.self.view_is (record { first = None; last = None }) refl refl refl refl c.self.invariant.room).1
