use Rattle.std.proofs.Common.{sym, ◌∙◌, ap}
use Rattle.std.specs.Prelude.{option_map}
use Rattle.herm_links.proofs.Splits.{front-is}
use Rattle.herm_links.proofs.links.Links.front.Goals as goal

pub returns-in_err-first : goal.returns-in_err-first
returns-in_err-first g c = record {
  node =
      ap (option_map (λ n. n.0)) c.from_residual.ensures
      ∙ sym c.in_err-first.was
      ∙ front-is c.self.inside.nodes c.self.inside.lists.items c.self.inside.spare c.self.invariant c.args.self.now c.self.view_is c.args.list.0 c.index.result.now c.requires.live c.index.ensures;
}

pub returns : goal.returns
returns g c = record {
  node =
      sym c.in_ok-first.was
      ∙ front-is c.self.inside.nodes c.self.inside.lists.items c.self.inside.spare c.self.invariant c.args.self.now c.self.view_is c.args.list.0 c.index.result.now c.requires.live c.index.ensures;
}
