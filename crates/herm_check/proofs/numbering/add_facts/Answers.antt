use Rattle.std.proofs.Common.{◌≡◌, ◌++◌, map, take, subst}
use Rattle.herm_types.specs.View.{fact_view}
use Rattle.herm_check.specs.Numberings.{HaveNumbers}
use Rattle.herm_check.proofs.FactsNumbered.{one-added, facts-more}
use Rattle.herm_check.proofs.numbering.add_facts.Goals as goal

pub loop-fact-preserved : goal.loop-fact-preserved
loop-fact-preserved c before h =
    let facts = c.args.facts.now in
    let i = c.loop-fact.fact-index in
    let fact = c.fact-item.result in
    subst (λ fs. HaveNumbers fs c.add.new.self) (facts-more fact_view before facts i fact c.loop-fact-test.true c.fact-item.is)
    (one-added (before ++ map fact_view (take i facts)) c.loop-fact.numbers c.add.new.self (fact_view fact) _ c.in_ok-add.ensures.number c.in_ok-add.ensures.others c.add.ensures.kept (c.loop-fact.invariant before h))
