use Rattle.std.proofs.Common.{sym, subst}
use Rattle.herm_rows.specs.Nodes.{Has, HasNode, NodesDiffer}
use Rattle.herm_rows.proofs.Searched.{stands-of, row-read}
use Rattle.herm_rows.proofs.Placed.{row-place}
use Rattle.herm_rows.proofs.rows.Rows.row.Goals as goal

pub at-requires : goal.at-requires
at-requires g c = record {
  stands = stands-of c.self.inside.links c.args.node.0 (subst (λ es. HasNode es c.args.node.0) (sym c.self.view_is) c.requires.stands);
}

pub returns : goal.returns
returns g c =
    let has =
    subst (λ es. Has es c.args.node.0 c.at.result.now) c.self.view_is
    (row-read c.self.inside.links c.args.node.0 c.at.result.now (subst (λ es. HasNode es c.args.node.0) (sym c.self.view_is) c.requires.stands) c.at.ensures.value) in
    record {
      row = has;
      place = row-place c.args.self.now (subst NodesDiffer c.self.view_is c.self.invariant.nodes) c.args.node.0 c.at.result.now has;
    }
