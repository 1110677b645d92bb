use Rattle.std.proofs.Common.{sym, ◌∙◌}
use Rattle.herm_model.specs.Paths.{same_fact}
use Rattle.herm_types.specs.View.{fact_view}
use Rattle.herm_effects.proofs.Repeats.{one-passes}
use Rattle.herm_effects.proofs.few.is_among.Goals as goal

pub returns-then-same_fact : goal.returns-then-same_fact
returns-then-same_fact c =
    sym (one-passes (λ g. same_fact g (fact_view c.args.fact.now)) fact_view c.args.facts.now c.loop-other.other-index c.other-item.result c.loop-other-test.true c.other-item.is (sym c.same_fact.ensures ∙ c.if-same_fact.true))
