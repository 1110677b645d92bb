use Rattle.std.proofs.Common.{arith}
use Rattle.herm_flow.proofs.ArgumentLists.{read_in}
use Rattle.herm_flow.proofs.lists.is_repeated.Goals as goal

pub returns-then-names_same : goal.returns-then-names_same
returns-then-names_same c =
    let e = c.index-edges-i.result in
    let yes = c.if-names_same.true in
    record { repeated = λ t. (e, read_in c.args.edges.now c.each.i e (omega (arith, c.each-test.true, c.each.invariant)) c.index-edges-i.is, c.names_same.ensures.to yes, c.names_same.ensures.makes yes, c.names_same.ensures.kills yes) }
