use Rattle.std.proofs.Common.{arith}
use Rattle.herm_types.proofs.Walks.{some-depth, within-there, part-read, walked, read-shape}
use Rattle.herm_types.proofs.paths.+walk.Goals as goal

pub walk-requires : goal.walk-requires
walk-requires t c =
    let deep = some-depth c.args.depth _ _ c.requires.within in
    let read = read-shape c.args.shapes.now c.args.t.0 _ (within-there c.args.depth _ _ c.requires.within) c.index-shapes-t.is in
    (omega (arith, deep, c.decreases), (part-read c.args.choice c.args.depth _ _ _ _ _ c.loop-part.part-index (0, record { 0 = 0 }) c.requires.within read c.in_ok-parts.ensures c.as_slice-part-items.ensures.value c.loop-part-test.true, c.requires.few))

pub returns-clause-out : goal.returns-clause-out
returns-clause-out t c =
    let read = read-shape c.args.shapes.now c.args.t.0 _ (within-there c.args.depth _ _ c.requires.within) c.index-shapes-t.is in
    walked c.args.choice c.args.depth _ _ _ _ _ _ _ _ c.loop-part.part-index c.requires.within read c.in_ok-parts.ensures c.as_slice-part-items.ensures.value c.loop-part-test.false c.loop-part.invariant.out
