use Rattle.std.specs.Prelude.{◌≡◌, ◌+◌, ◌≤◌}
use Rattle.slab.specs.Slab.{slab_len}
use Rattle.std.proofs.Common.{ap, arith}
use Rattle.herm_links.proofs.Relinked.{roomier}
use Rattle.herm_links.proofs.links.Links.reserve.Goals as goal

pub invariant_of-self : goal.invariant_of-self
invariant_of-self g c =
    roomier
    c.self.inside.nodes
    c.reserve.new.self
    c.self.inside.lists.items
    c.self.inside.spare
    c.self.inside.spare
    c.self.invariant
    c.reserve.ensures.rest_kept
    (omega (arith, c.self.invariant.room, c.reserve.ensures.capacity))

pub invariant_of-self-2 : goal.invariant_of-self-2
invariant_of-self-2 g c =
    roomier
    c.self.inside.nodes
    c.reserve.new.self
    c.self.inside.lists.items
    c.self.inside.spare
    c.args.n
    c.self.invariant
    c.reserve.ensures.rest_kept
    (let long : slab_len c.reserve.new.self ≡ slab_len c.self.inside.nodes = ap slab_len c.reserve.ensures.rest_kept in
    let roomy : slab_len c.reserve.new.self + c.args.n ≤ c.reserve.new.self.capacity = c.in_ok-reserve.ensures.room in
    omega arith)
