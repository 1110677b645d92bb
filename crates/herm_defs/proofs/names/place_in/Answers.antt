use Rattle.std.proofs.Common.{sym}
use Rattle.herm_defs.proofs.Places.{place-here, place-further, place-end}
use Rattle.herm_defs.proofs.names.place_in.Goals as goal

pub returns-then-is_same : goal.returns-then-is_same
returns-then-is_same c = place-here c.args.words.now c.loop-place.place c.index-words-place.result c.args.name.now c.loop-place-test.true c.index-words-place.is (sym c.if-is_same.ensures) c.loop-place.invariant

pub loop-place-preserved : goal.loop-place-preserved
loop-place-preserved c = place-further c.args.words.now c.loop-place.place c.index-words-place.result c.args.name.now c.loop-place-test.true c.index-words-place.is (sym c.if-is_same.ensures) c.loop-place.invariant

pub returns : goal.returns
returns c = place-end c.args.words.now c.loop-place.place c.args.name.now c.loop-place-test.false c.loop-place.invariant
