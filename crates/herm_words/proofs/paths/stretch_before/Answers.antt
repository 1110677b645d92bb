use Rattle.std.proofs.Common.{◌<◌, sym, ◌∙◌, arith}
use Rattle.herm_words.proofs.Stretched.{link-goes_on}
use Rattle.herm_words.proofs.paths.stretch_before.Goals as goal

pub returns-then-from-len-clause-ends : goal.returns-then-from-len-clause-ends
returns-then-from-len-clause-ends c texts h =
    let low : c.args.link.now.from < c.args.place = omega (arith, c.if-link-place.false) in
    link-goes_on texts c.args.paths.now.hops.items c.args.paths.now.stretches.items c.args.place c.args.link.now c.in-Some.from low (sym c.stretch_at.ensures ∙ c.in-Some.is) h
