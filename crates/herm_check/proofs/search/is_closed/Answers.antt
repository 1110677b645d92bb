use Rattle.std.proofs.Common.{true, false, refl, arith}
use Rattle.herm_check.proofs.Remaining.{set-at, seen-beyond}
use Rattle.herm_check.proofs.search.is_closed.Goals as goal

pub returns : goal.returns
returns c value =
    let seen = c.args.seen.now in
    let t = c.args.edge.now.to in
    seen-beyond seen c.args.effect c.args.visit.now t c.held_beyond-held.result c.without-others.result _ _ c.without.result c.without-2.result
    (set-at seen c.slot.result t true _ c.slot.ensures (omega (arith, c.slot.ensures, c.requires.within)))
    (set-at seen c.slot-2.result t false _ c.slot-2.ensures (omega (arith, c.slot-2.ensures, c.requires.within)))
    c.held_beyond-held.ensures c.without-others.ensures c.without.ensures c.without-2.ensures (c.if-not-is_empty.ensures.none refl) (c.is_empty-2.ensures.none value)
