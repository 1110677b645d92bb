use Rattle.std.proofs.Common.{sym}
use Rattle.herm_facts.proofs.Among.{among-found, among-next}
use Rattle.herm_facts.proofs.numbered.number_among.Goals as goal

pub returns-then-component-one : goal.returns-then-component-one
returns-then-component-one c = sym (among-found c.args.component c.args.known.now c.loop-one.one-index _ c.loop-one-test.true c.loop-one.invariant c.if-component-one.true)

pub loop-one-preserved : goal.loop-one-preserved
loop-one-preserved c = among-next c.args.component c.args.known.now c.loop-one.one-index _ c.loop-one-test.true c.loop-one.invariant c.if-component-one.false
