use Rattle.std.proofs.Common.{arith, ◌∙◌}
use Rattle.herm_flow.proofs.Alike.{edge-makes, edge-kills}
use Rattle.herm_flow.proofs.changes.alike_among.Goals as goal

pub returns-then-are_alike-clause-makes : goal.returns-then-are_alike-clause-makes
returns-then-are_alike-clause-makes c =
    let test = c.each-test.true in
    let end = c.each.invariant in
    edge-makes c.args.frame.now c.args.form.now c.args.edges.now c.requires.edges c.each.i c.index-edges-i.result (omega (arith, test, end)) c.index-edges-i.is ∙ c.are_alike.ensures.makes c.if-are_alike.true

pub returns-then-are_alike-clause-kills : goal.returns-then-are_alike-clause-kills
returns-then-are_alike-clause-kills c =
    let test = c.each-test.true in
    let end = c.each.invariant in
    edge-kills c.args.frame.now c.args.form.now c.args.edges.now c.requires.edges c.each.i c.index-edges-i.result (omega (arith, test, end)) c.index-edges-i.is ∙ c.are_alike.ensures.kills c.if-are_alike.true
