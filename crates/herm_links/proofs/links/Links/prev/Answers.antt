use Rattle.std.proofs.Common.{sym, ◌∙◌, ap}
use Rattle.std.specs.Prelude.{option_map}
use Rattle.herm_links.proofs.Splits.{stands-there, prev-is}
use Rattle.herm_links.proofs.links.Links.prev.Goals as goal

pub index-requires : goal.index-requires
index-requires g c =
    stands-there c.self.inside.nodes c.self.inside.lists.items c.self.inside.spare c.self.invariant c.args.self.now c.self.view_is c.args.node.0 c.requires.stands

pub returns-in_err-prev : goal.returns-in_err-prev
returns-in_err-prev g c = record {
  node = λ list before value behind split.
      ap (option_map (λ n. n.0)) c.from_residual.ensures
      ∙ sym c.in_err-prev.was
      ∙ prev-is c.self.inside.nodes c.self.inside.lists.items c.self.inside.spare c.self.invariant c.args.self.now c.self.view_is list before c.args.node.0 value behind c.index.result.now split c.index.ensures;
}

pub returns : goal.returns
returns g c = record {
  node = λ list before value behind split.
      sym c.in_ok-prev.was
      ∙ prev-is c.self.inside.nodes c.self.inside.lists.items c.self.inside.spare c.self.invariant c.args.self.now c.self.view_is list before c.args.node.0 value behind c.index.result.now split c.index.ensures;
}
