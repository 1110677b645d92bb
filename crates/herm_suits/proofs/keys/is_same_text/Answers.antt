use Rattle.herm_types.proofs.Repeats.{same-slices}
use Rattle.herm_suits.proofs.keys.is_same_text.Goals as goal

pub returns : goal.returns
returns c = rw (c.eq.ensures, c.bytes.ensures.bytes, c.bytes-2.ensures.bytes) (same-slices c.args.a.now c.args.b.now)
