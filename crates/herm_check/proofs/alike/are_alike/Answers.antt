use Rattle.std.proofs.Common.{sym, subst, length, ap, arith}
use Rattle.herm_check.specs.Alike.{AreGroups, AreListsCovered}
use Rattle.herm_check.specs.declared.lists.ListsOf.{ListsOf}
use Rattle.herm_check.proofs.Standing.{lists-alike}
use Rattle.herm_check.proofs.alike.are_alike.Goals as goal

pub returns-clause-lists : goal.returns-clause-lists
returns-clause-lists c value =
    let firsts = c.args.firsts.now in
    let start = c.start_alike.ensures c.if-not-start_alike.false in
    lists-alike firsts c.as_slice.result.now
    (λ n m at. let within = (start n).within m at in omega (arith, within, c.requires))
    (omega (arith, ap length c.as_slice.ensures.value, c.in_ok-groups.ensures.many))
    (subst (AreGroups firsts) (sym c.as_slice.ensures.value) c.in_ok-groups.ensures.groups)
    c.args.lists.now (c.in_ok-covered.ensures value)
