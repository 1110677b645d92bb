use Rattle.std.proofs.Common.{◌++◌, map, flat_map, take, subst, ap, ◌∙◌}
use Rattle.herm_types.specs.View.{fact_view}
use Rattle.herm_check.specs.Numberings.{HaveNumbers}
use Rattle.herm_check.specs.Labelled.{facts_of}
use Rattle.herm_check.proofs.FactsNumbered.{rows-more}
use Rattle.herm_check.proofs.numbering.add_lists.Goals as goal

pub loop-facts-preserved : goal.loop-facts-preserved
loop-facts-preserved c before h =
    let lists = c.args.lists.now in
    let i = c.loop-facts.facts-index in
    let so_far = before ++ flat_map facts_of (take i lists) in
    subst (λ fs. HaveNumbers fs c.add_facts.new.numbers)
    (ap (λ facts. so_far ++ map fact_view facts) c.as_slice.ensures.value ∙ rows-more facts_of before lists i c.facts-item.result c.loop-facts-test.true c.facts-item.is)
    (c.in_ok-add_facts.ensures so_far (c.loop-facts.invariant before h))
