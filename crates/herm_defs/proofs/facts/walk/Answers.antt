use Rattle.std.proofs.Common.{◌∙◌, sym}
use Rattle.herm_defs.specs.declared.facts.Walked.TheVariants.{Ended, Left}
use Rattle.herm_defs.proofs.FactLaws.{walk-next}
use Rattle.herm_defs.proofs.facts.walk.Goals as goal

pub returns-in-Left : goal.returns-in-Left
returns-in-Left c = sym (walk-next c.args.context.now c.args.names.now c.loop-name.name-index c.name-item.result c.loop-name.t Left c.loop-name-test.true c.name-item.is (sym c.in-Left.is ∙ c.step.ensures)) ∙ c.loop-name.invariant

pub loop-name-preserved : goal.loop-name-preserved
loop-name-preserved c = sym (walk-next c.args.context.now c.args.names.now c.loop-name.name-index c.name-item.result c.loop-name.t (Ended c.in-Ended.next) c.loop-name-test.true c.name-item.is (sym c.in-Ended.is ∙ c.step.ensures)) ∙ c.loop-name.invariant
