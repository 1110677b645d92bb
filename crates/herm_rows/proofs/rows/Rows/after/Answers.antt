use Rattle.std.proofs.Common.{sym, ◌∙◌, subst}
use Rattle.herm_rows.specs.Nodes.{HasNode, NodesDiffer}
use Rattle.herm_rows.proofs.Searched.{stands-of}
use Rattle.herm_rows.proofs.Kept.{split-whole}
use Rattle.herm_rows.proofs.Placed.{after-node, after-place, after-stands}
use Rattle.herm_rows.proofs.rows.Rows.after.Goals as goal

pub next-requires : goal.next-requires
next-requires g c = record {
  stands = stands-of c.self.inside.links c.args.node.0 (subst (λ es. HasNode es c.args.node.0) (sym c.self.view_is) c.requires.stands);
}

pub returns : goal.returns
returns g c =
    let next =
    after-node c.args.self.now c.args.node.0 c.next.result c.requires.stands
    (λ before row behind split.
    c.next.ensures.node 0 before row behind (split-whole c.self.inside.links before c.args.node.0 row behind (c.self.view_is ∙ split))) in
    record {
      node = λ before row behind split.
          c.next.ensures.node 0 before row behind (split-whole c.self.inside.links before c.args.node.0 row behind (c.self.view_is ∙ split));
      stands = after-stands c.args.self.now c.args.node.0 c.next.result c.requires.stands next;
      place = after-place c.args.self.now (subst NodesDiffer c.self.view_is c.self.invariant.nodes) c.args.node.0 c.next.result c.requires.stands next;
    }
