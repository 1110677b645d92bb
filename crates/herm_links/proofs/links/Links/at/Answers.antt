use Rattle.std.proofs.Common.{ap}
use Rattle.herm_links.proofs.Splits.{stands-there, node-is, apart}
use Rattle.herm_links.proofs.links.Links.at.Goals as goal

pub index-requires : goal.index-requires
index-requires g c =
    stands-there c.self.inside.nodes c.self.inside.lists.items c.self.inside.spare c.self.invariant c.args.self.now c.self.view_is c.args.node.0 c.requires.stands

pub returns : goal.returns
returns g c = record {
  value = λ list before value behind split.
      ap (λ n. n.value)
      (node-is c.self.inside.nodes c.self.inside.lists.items c.self.inside.spare c.self.invariant c.args.self.now c.self.view_is list before c.args.node.0 value behind c.index.result.now split c.index.ensures);
  apart = apart c.self.inside.nodes c.self.inside.lists.items c.self.inside.spare c.self.invariant c.args.self.now c.self.view_is;
}
