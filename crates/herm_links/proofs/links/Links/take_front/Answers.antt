use Rattle.std.specs.Prelude.{[], Some, slice_set, drop}
use Rattle.std.proofs.Common.{sym, ◌∙◌, ap}
use Rattle.herm_links.specs.Lists.{first_value}
use Rattle.herm_links.proofs.Splits.{first-split, first-parts}
use Rattle.herm_links.proofs.links.Links.take_front.Goals as goal

pub returns-in-Some-clause-value : goal.returns-in-Some-clause-value
returns-in-Some-clause-value g c =
    let parts = first-parts c.args.self.now c.args.list.0 c.in-Some.node.0 c.in-Some.ensures.node in
    ap Some (c.unlink.ensures.value c.args.list.0 [] parts.0 parts.1.0 (first-split c.args.self.now c.args.list.0 c.in-Some.node.0 c.requires.live c.in-Some.ensures.node))
    ∙ sym (ap first_value parts.1.1)

pub returns-in-Some-clause-others : goal.returns-in-Some-clause-others
returns-in-Some-clause-others g c =
    let parts = first-parts c.args.self.now c.args.list.0 c.in-Some.node.0 c.in-Some.ensures.node in
    c.unlink.ensures.others c.args.list.0 [] parts.0 parts.1.0 (first-split c.args.self.now c.args.list.0 c.in-Some.node.0 c.requires.live c.in-Some.ensures.node)
    ∙ sym (ap (λ es. slice_set c.args.self.now.lists c.args.list.0 (drop 1 es)) parts.1.1)
