use Rattle.std.proofs.Common.{map, flat_map, take_all, ap, subst, ◌∙◌}
use Rattle.herm_model.specs.Facts.{without_repeats}
use Rattle.herm_syntax.specs.View.{dfact_view}
use Rattle.herm_meaning.specs.Meaning.{fact_meant}
use Rattle.herm_defs.specs.Distinct.{AreListed}
use Rattle.herm_defs.proofs.DistinctLaws.{taken-more}
use Rattle.herm_defs.proofs.read.distinct_facts.Goals as goal

pub loop-fact-preserved : goal.loop-fact-preserved
loop-fact-preserved c =
    subst (λ ds. AreListed c.args.table.now c.args.message.0 ds c.add_written.new.written.keys c.add_written.new.facts) (taken-more c.args.list.now c.loop-fact.fact-index c.fact-item.result c.loop-fact-test.true c.fact-item.is)
    (c.in_ok-add_written.ensures _ c.loop-fact.invariant)

pub returns : goal.returns
returns c =
    c.into_facts.ensures _ c.loop-fact.invariant.meant
    ∙ ap (λ ds. without_repeats (flat_map (fact_meant c.args.table.now c.args.message.0) (map dfact_view ds))) (take_all c.loop-fact.fact-index c.args.list.now c.loop-fact-test.false)
