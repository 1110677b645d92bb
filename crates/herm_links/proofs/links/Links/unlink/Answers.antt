use Rattle.std.specs.Prelude.{◌+◌, ◌<◌, length}
use Rattle.std.proofs.Common.{ap, arith}
use Rattle.slab.specs.Slab.{get}
use Rattle.herm_links.proofs.Splits.{stands-there, node-is}
use Rattle.herm_links.proofs.Unlinked.{unlinked, next-may, prev-may, list-within}
use Rattle.herm_links.proofs.links.Links.unlink.Goals as goal

pub remove-taken-requires : goal.remove-taken-requires
remove-taken-requires g c =
    stands-there c.self.inside.nodes c.self.inside.lists.items c.self.inside.spare c.self.invariant c.args.self.now c.self.view_is c.args.node.0 c.requires.stands

pub index-ends-requires : goal.index-ends-requires
index-ends-requires g c =
    let within : c.remove-taken.result.list < length c.self.inside.lists.items = list-within c.self.inside.nodes c.self.inside.nodes (get c.remove-taken.new.self) (get c.remove-taken.new.self) c.self.inside.lists.items c.self.inside.spare c.self.invariant c.args.self.now c.self.view_is c.args.node.0 c.remove-taken.result c.requires.stands c.remove-taken.ensures.value in
    omega arith

pub index_mut-requires : goal.index_mut-requires
index_mut-requires g c =
    let within : c.remove-taken.result.list < length c.self.inside.lists.items = list-within c.self.inside.nodes c.self.inside.nodes (get c.remove-taken.new.self) (get c.remove-taken.new.self) c.self.inside.lists.items c.self.inside.spare c.self.invariant c.args.self.now c.self.view_is c.args.node.0 c.remove-taken.result c.requires.stands c.remove-taken.ensures.value in
    omega arith

pub link_next-first-requires : goal.link_next-first-requires
link_next-first-requires g c =
    next-may c.self.inside.nodes c.self.inside.nodes (get c.remove-taken.new.self) (get c.remove-taken.new.self) c.self.inside.lists.items c.self.inside.spare c.self.invariant c.args.self.now c.self.view_is c.args.node.0 c.remove-taken.result c.requires.stands c.remove-taken.ensures.value c.remove-taken.ensures.updates.others

pub link_prev-last-requires : goal.link_prev-last-requires
link_prev-last-requires g c =
    prev-may c.self.inside.nodes c.self.inside.nodes (get c.remove-taken.new.self) (get c.link_next-first.new.nodes) c.self.inside.lists.items c.self.inside.spare c.self.invariant c.args.self.now c.self.view_is c.args.node.0 c.remove-taken.result c.index-ends.result.now.first c.link_next-first.result c.requires.stands c.remove-taken.ensures.value c.remove-taken.ensures.updates.others c.link_next-first.ensures.linked

pub invariant_of-self : goal.invariant_of-self
invariant_of-self g c =
    (unlinked
    c.self.inside.nodes c.link_prev-last.new.nodes (get c.remove-taken.new.self) (get c.link_next-first.new.nodes) c.self.inside.lists.items c.self.inside.spare c.self.invariant c.args.self.now c.self.view_is
    c.requires.stands.0
    c.requires.stands.1.0
    c.args.node.0
    c.requires.stands.1.1.0
    c.requires.stands.1.1.1.0
    c.remove-taken.result
    c.index-ends.result.now
    c.link_next-first.result
    c.link_prev-last.result
    (c.self.inside.spare + 1)
    c.requires.stands.1.1.1.1
    c.remove-taken.ensures.value
    (record {
      removed = c.remove-taken.ensures.updates.others;
      read = c.index-ends.ensures;
      next_set = c.link_next-first.ensures.linked;
      prev_set = c.link_prev-last.ensures.linked;
      long = omega (arith, c.link_prev-last.ensures.len, c.link_next-first.ensures.len, c.remove-taken.ensures.len);
      roomy = omega (arith, c.link_prev-last.ensures.len, c.link_next-first.ensures.len, c.remove-taken.ensures.len, c.link_prev-last.ensures.capacity, c.link_next-first.ensures.capacity, c.remove-taken.ensures.capacity, c.self.invariant.room);
    })).0

pub returns-clause-value : goal.returns-clause-value
returns-clause-value g c = λ list before value behind split.
    ap (λ n. n.value)
    (node-is c.self.inside.nodes c.self.inside.lists.items c.self.inside.spare c.self.invariant c.args.self.now c.self.view_is list before c.args.node.0 value behind c.remove-taken.result split c.remove-taken.ensures.value)

pub returns-clause-others : goal.returns-clause-others
returns-clause-others g c = λ list before value behind split.
    (unlinked
    c.self.inside.nodes c.link_prev-last.new.nodes (get c.remove-taken.new.self) (get c.link_next-first.new.nodes) c.self.inside.lists.items c.self.inside.spare c.self.invariant c.args.self.now c.self.view_is
    list
    before
    c.args.node.0
    value
    behind
    c.remove-taken.result
    c.index-ends.result.now
    c.link_next-first.result
    c.link_prev-last.result
    (c.self.inside.spare + 1)
    split
    c.remove-taken.ensures.value
    (record {
      removed = c.remove-taken.ensures.updates.others;
      read = c.index-ends.ensures;
      next_set = c.link_next-first.ensures.linked;
      prev_set = c.link_prev-last.ensures.linked;
      long = omega (arith, c.link_prev-last.ensures.len, c.link_next-first.ensures.len, c.remove-taken.ensures.len);
      roomy = omega (arith, c.link_prev-last.ensures.len, c.link_next-first.ensures.len, c.remove-taken.ensures.len, c.link_prev-last.ensures.capacity, c.link_next-first.ensures.capacity, c.remove-taken.ensures.capacity, c.self.invariant.room);
    })).1
