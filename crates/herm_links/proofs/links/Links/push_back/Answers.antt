use Rattle.std.specs.Prelude.{◌-◌, ◌<◌}
use Rattle.std.proofs.Common.{◌∙◌, ap, arith}
use Rattle.slab.specs.Slab.{get}
use Rattle.herm_links.proofs.Pushed.{pushed, last-may, fresh}
use Rattle.herm_links.proofs.links.Links.push_back.Goals as goal

pub link_next-first-requires : goal.link_next-first-requires
link_next-first-requires g c =
    last-may
    c.self.inside.nodes
    c.self.inside.nodes
    (get c.insert_reserved-key.new.self)
    c.self.inside.lists.items
    c.self.inside.spare
    c.self.invariant
    c.args.self.now
    c.self.view_is
    c.args.list.0
    c.index-ends.result.now
    c.insert_reserved-key.result
    c.requires.live
    c.index-ends.ensures
    c.insert_reserved-key.ensures.was_vacant
    c.insert_reserved-key.ensures.updates.others

pub invariant_of-self : goal.invariant_of-self
invariant_of-self g c =
    (pushed
    c.self.inside.nodes c.link_next-first.new.nodes (get c.insert_reserved-key.new.self) c.self.inside.lists.items c.self.inside.spare c.self.invariant c.args.self.now c.self.view_is
    c.args.list.0
    c.index-ends.result.now
    c.insert_reserved-key.result
    c.args.value
    c.link_next-first.result
    (c.self.inside.spare - 1)
    (record {
      live = c.requires.live;
      read = c.index-ends.ensures;
      vacant = c.insert_reserved-key.ensures.was_vacant;
      made = c.insert_reserved-key.ensures.updates.changed;
      others = c.insert_reserved-key.ensures.updates.others;
      set = c.link_next-first.ensures.linked;
      long = c.link_next-first.ensures.len ∙ c.insert_reserved-key.ensures.len;
      roomy =
          let room : 0 < c.self.inside.spare = rw (ap (λ s. s.spare) c.self.view_is) c.requires.room in
          omega (arith, c.link_next-first.ensures.len, c.insert_reserved-key.ensures.len, c.link_next-first.ensures.capacity, c.insert_reserved-key.ensures.capacity, c.self.invariant.room);
    })).0

pub returns-clause-pushed : goal.returns-clause-pushed
returns-clause-pushed g c =
    (pushed
    c.self.inside.nodes c.link_next-first.new.nodes (get c.insert_reserved-key.new.self) c.self.inside.lists.items c.self.inside.spare c.self.invariant c.args.self.now c.self.view_is
    c.args.list.0
    c.index-ends.result.now
    c.insert_reserved-key.result
    c.args.value
    c.link_next-first.result
    (c.self.inside.spare - 1)
    (record {
      live = c.requires.live;
      read = c.index-ends.ensures;
      vacant = c.insert_reserved-key.ensures.was_vacant;
      made = c.insert_reserved-key.ensures.updates.changed;
      others = c.insert_reserved-key.ensures.updates.others;
      set = c.link_next-first.ensures.linked;
      long = c.link_next-first.ensures.len ∙ c.insert_reserved-key.ensures.len;
      roomy =
          let room : 0 < c.self.inside.spare = rw (ap (λ s. s.spare) c.self.view_is) c.requires.room in
          omega (arith, c.link_next-first.ensures.len, c.insert_reserved-key.ensures.len, c.link_next-first.ensures.capacity, c.insert_reserved-key.ensures.capacity, c.self.invariant.room);
    })).1

pub returns-clause-fresh : goal.returns-clause-fresh
returns-clause-fresh g c =
    fresh
    c.self.inside.nodes c.link_next-first.new.nodes (get c.insert_reserved-key.new.self) c.self.inside.lists.items c.self.inside.spare c.self.invariant c.args.self.now c.self.view_is
    c.insert_reserved-key.result
    c.insert_reserved-key.ensures.was_vacant
